use Rattle.std.proofs.Common.{◌≡◌, ◌+◌, ◌++◌, List, length, IsUtf8}
use Rattle.gs_syntax.specs.Tokens.{AreTokens, Cut, IsCutInto, tokens_from}
use Rattle.gs_scan.specs.Comments.{AreComments, comments_from}
use Rattle.gs_scan.proofs.scan.scan_all.Given as goal

abbrev pub invariant-loop-rest : goal.invariant-loop-rest
invariant-loop-rest l = record {
  tokens : (cs : List Cut) → IsCutInto l.rest cs → AreTokens l.text (l.found.tokens.items ++ tokens_from l.at l.end cs);
  comments : (cs : List Cut) → IsCutInto l.rest cs → AreComments l.text (l.found.comments.items ++ comments_from l.at l.rest cs);
  place : l.at + length l.rest ≡ length l.text;
  utf8 : IsUtf8 l.rest;
}

abbrev pub decreases-loop-rest : goal.decreases-loop-rest
decreases-loop-rest l = length l.rest

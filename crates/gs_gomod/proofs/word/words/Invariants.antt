use Rattle.std.proofs.Common.{◌≡◌, ◌++◌, length, map, IsUtf8}
use Rattle.gs_gomod.specs.Words.{words_from, between}
use Rattle.gs_gomod.specs.Shown.{seen}
use Rattle.gs_gomod.proofs.word.words.Given as goal

abbrev pub invariant-loop-rest : goal.invariant-loop-rest
invariant-loop-rest l = record {
  leads : map seen l.words.items ++ words_from between l.rest ≡ words_from between l.line;
  utf8 : IsUtf8 l.rest;
}

abbrev pub decreases-loop-rest : goal.decreases-loop-rest
decreases-loop-rest l = length l.rest

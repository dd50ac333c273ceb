use Rattle.std.proofs.Common.{◌≡◌, ◌++◌, drop, reverse}
use Rattle.gs_chunks.specs.Docs.{starts_from, starts}
use Rattle.gs_chunks.proofs.starts.put_starts.Given as goal

abbrev pub invariant-loop-token : goal.invariant-loop-token
invariant-loop-token l = l.starts.items ++ starts_from l.before (reverse l.brackets.items) (drop l.token-index l.others) ≡ l.fn.starts.items ++ starts l.tokens

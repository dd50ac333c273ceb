use Rattle.std.proofs.Common.{◌≡◌, ◌++◌, drop}
use Rattle.gs_chunks.specs.Verdicts.{bad_tokens}
use Rattle.gs_chunks.proofs.judge.put_bad_tokens.Given as goal

abbrev pub invariant-loop-token : goal.invariant-loop-token
invariant-loop-token l = l.faults.items ++ bad_tokens (drop l.token-index l.tokens) ≡ l.initial.faults.items ++ bad_tokens l.tokens

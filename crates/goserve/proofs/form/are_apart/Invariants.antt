use Rattle.std.proofs.Common.{◌≡◌, drop, false}
use Rattle.goserve.specs.FirstForm.{are_apart}
use Rattle.goserve.proofs.form.are_apart.Given as goal

abbrev pub invariant-loop-token : goal.invariant-loop-token
invariant-loop-token l = are_apart l.named (drop l.token-index l.tokens) ≡ are_apart false l.tokens

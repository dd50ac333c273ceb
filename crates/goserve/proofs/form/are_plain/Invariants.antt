use Rattle.std.proofs.Common.{◌≡◌, drop}
use Rattle.std.specs.List.{list_all}
use Rattle.goserve.specs.FirstForm.{is_plain}
use Rattle.goserve.proofs.form.are_plain.Given as goal

abbrev pub invariant-loop-token : goal.invariant-loop-token
invariant-loop-token l = list_all (is_plain l.input) (drop l.token-index l.tokens) ≡ list_all (is_plain l.input) l.tokens

use Rattle.std.proofs.Common.{◌≡◌, ◌<◌, ◌^◌, ◌==◌, not, filter, drop}
use Rattle.std.specs.Str.Parse.{digits_value_after}
use Rattle.gs_syntax.specs.Numbers.{value_of}
use Rattle.gs_numbers.proofs.digits.digits_value.Given as goal

abbrev pub invariant-loop-b : goal.invariant-loop-b
invariant-loop-b l = (digits_value_after l.base l.value (filter (λ c. not (c == 95)) (drop l.b-index l.digits)) ≡ value_of l.base l.digits) × (l.value < 2 ^ 127)

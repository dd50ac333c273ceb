use Rattle.std.proofs.Common.{◌≡◌, ◌+◌, ◌-◌, ◌≤◌, length, drop}
use Rattle.gs_numbers.specs.Reading.{digits_size}
use Rattle.gs_numbers.proofs.digits.digits_len.Given as goal

abbrev pub invariant-loop-at : goal.invariant-loop-at
invariant-loop-at l = (l.at + digits_size l.base (drop l.at l.rest) ≡ digits_size l.base l.rest) × (l.at ≤ length l.rest)

abbrev pub decreases-loop-at : goal.decreases-loop-at
decreases-loop-at l = length l.rest - l.at

use Rattle.std.proofs.Common.{◌*◌, arith, ap}
use Rattle.gs_numbers.proofs.DigitLemmas.{value_exceeds}
use Rattle.gs_numbers.proofs.digits.digits_value.Goals as goal

pub returns-then-sum : goal.returns-then-sum
returns-then-sum c = value_exceeds _ _ _ _ _ c.requires c.loop-b-test.true c.if-b-ne95.true c.loop-b.invariant.0
    (omega (arith, c.in-Some.ensures, c.in-Some-checked_add.ensures, ap (λ b. c.loop-b.value * b) c.from.ensures, c.from-then-b-ne95.ensures, c.digit_value-digit.ensures))

pub returns-in_default : goal.returns-in_default
returns-in_default c = value_exceeds _ _ _ _ _ c.requires c.loop-b-test.true c.if-b-ne95.true c.loop-b.invariant.0
    (omega (arith, c.in_default.ensures, ap (λ b. c.loop-b.value * b) c.from.ensures))

pub returns-in_default-checked_add : goal.returns-in_default-checked_add
returns-in_default-checked_add c = value_exceeds _ _ _ _ _ c.requires c.loop-b-test.true c.if-b-ne95.true c.loop-b.invariant.0
    (omega (arith, c.in-Some.ensures, c.in_default-checked_add.ensures, ap (λ b. c.loop-b.value * b) c.from.ensures, c.from-then-b-ne95.ensures, c.digit_value-digit.ensures))

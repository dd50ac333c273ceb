use Rattle.std.proofs.Common.{◌≡◌, ◌+◌, ◌*◌, ◌^◌, ◌<◌, true, take, ◌∙◌, ap, subst, arith}
use Rattle.std.specs.Char.{is_digit, digit_value}
use Rattle.std.specs.List.{list_all}
use Rattle.std.specs.Str.Parse.{digits_value}
use Rattle.gs_scan.proofs.EscapeLemmas.{numeral_step}
use Rattle.gs_scan.proofs.escape.numeral.Goals as goal
use Rattle.gs_scan.proofs.escape.numeral.Goals.{In-Some}

next : (c : In-Some) → (c.loop-b.value * c.args.base + c.in-Some.digit ≡ digits_value c.args.base (take (c.loop-b.b-index + 1) c.args.digits.now))
    × (list_all (λ d. is_digit d c.args.base) (take (c.loop-b.b-index + 1) c.args.digits.now) ≡ true) × (c.loop-b.value * c.args.base + c.in-Some.digit < 2 ^ 32)
next c =
    numeral_step c.args.base c.loop-b.value c.in-Some.digit c.loop-b.b-index c.args.digits.now c.requires.short c.requires.low c.requires.high c.loop-b-test.true
    c.loop-b.invariant.0 c.loop-b.invariant.1 (subst (λ x. digit_value x < c.args.base) c.from.ensures c.in-Some.ensures.value.0) (c.in-Some.ensures.value.1 ∙ ap digit_value c.from.ensures)

pub overflow_mul-value : goal.overflow_mul-value
overflow_mul-value c = let h = (next c).2 in omega (arith, h)

pub overflow_add-value : goal.overflow_add-value
overflow_add-value c = let h = (next c).2 in omega (arith, h)

pub loop-b-preserved : goal.loop-b-preserved
loop-b-preserved c = ((next c).0, (next c).1)

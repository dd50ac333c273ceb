use Rattle.std.proofs.Common.{arith, sym, ◌∙◌}
use Rattle.gs_numbers.proofs.DigitLemmas.{digits_size-more, digits_size-stop, fits_at}
use Rattle.gs_numbers.proofs.digits.digits_len.Goals as goal

pub loop-at-preserved : goal.loop-at-preserved
loop-at-preserved c =
    let step = digits_size-more c.args.base c.args.rest.now c.loop-at.at c.loop-at-test.true (sym (fits_at c.args.base c.args.rest.now c.loop-at.at c.byte_at.result c.byte_at.ensures) ∙ sym c.if-is_digit_or_mark.ensures) in
    (omega (arith, step, c.loop-at.invariant.0), omega arith)

pub returns-else-is_digit_or_mark-clause-size : goal.returns-else-is_digit_or_mark-clause-size
returns-else-is_digit_or_mark-clause-size c =
    let stop = digits_size-stop c.args.base c.args.rest.now c.loop-at.at c.loop-at-test.true (sym (fits_at c.args.base c.args.rest.now c.loop-at.at c.byte_at.result c.byte_at.ensures) ∙ sym c.if-is_digit_or_mark.ensures) in
    omega (arith, stop, c.loop-at.invariant.0)

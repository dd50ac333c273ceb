use Rattle.std.proofs.Common.{◌∙◌, sym, ap, arith}
use Rattle.gs_syntax.specs.Numbers.{bounded}
use Rattle.gs_numbers.proofs.LawLemmas.{value_is}
use Rattle.gs_numbers.proofs.NumberLemmas.{Sizes, imaginary_stands, no_letter, float_stands, nothing_stands, integer_stands}
use Rattle.gs_numbers.proofs.number.number_at.Goals as goal
use Rattle.gs_numbers.proofs.number.number_at.Goals.{After-max-longest}

sizes : (c : After-max-longest) → Sizes c.args.rest.now c.integer_len-integer.result c.float_len-float.result c.max-longest.result
sizes c = record {
  integer_is = c.integer_len-integer.ensures.size;
  float_is = c.float_len-float.ensures.size;
  longest_is = omega (arith, c.max-longest.ensures, c.max.ensures, c.run_len.ensures.size);
}

pub returns-then-is_imaginary-clause-found : goal.returns-then-is_imaginary-clause-found
returns-then-is_imaginary-clause-found c = imaginary_stands _ _ _ _ (sizes (goal.at.returns-then-is_imaginary-clause-found c).After-max-longest) c.if-is_imaginary.ensures

pub returns-then-float-integer-clause-found : goal.returns-then-float-integer-clause-found
returns-then-float-integer-clause-found c = float_stands _ _ _ _ (sizes (goal.at.returns-then-float-integer-clause-found c).After-max-longest)
    (no_letter _ _ c.if-is_imaginary.ensures) c.if-float-integer.true c.float_len-float.ensures.within

pub returns-then-integer-eq0-clause-none : goal.returns-then-integer-eq0-clause-none
returns-then-integer-eq0-clause-none c = nothing_stands _ _ _ _ (sizes (goal.at.returns-then-integer-eq0-clause-none c).After-max-longest)
    (no_letter _ _ c.if-is_imaginary.ensures) c.if-float-integer.false c.if-integer-eq0.true

pub returns-clause-found : goal.returns-clause-found
returns-clause-found c = integer_stands _ _ _ _ _ _ (sizes (goal.at.returns-clause-found c).After-max-longest)
    (no_letter _ _ c.if-is_imaginary.ensures) c.if-float-integer.false c.if-integer-eq0.false c.integer_len-integer.ensures.within c.split_at.ensures.front
    (λ k is. c.integer_value.ensures ∙ ap bounded (sym (value_is c.split_at.result.0.now k is)))

use Rattle.std.proofs.Common.{arith, ◌∙◌, sym, map, ap}
use Rattle.goserve.specs.Seen.{seen}
use Rattle.goserve.proofs.Forming.{unlike_tokens, unlike_declarations, has_form}
use Rattle.goserve.proofs.Reporting.{rights_told}
use Rattle.goserve.proofs.answering.answer_tokens.Goals as goal

pub returns-then-not-have_form : goal.returns-then-not-have_form
returns-then-not-have_form c = record {
  form = c.requires.form;
  other = λ us form. unlike_tokens c.args.input.now c.args.tokens.now us (c.one_list.ensures c.args.input.now c.args.tokens.now us c.requires.scanned form.scanned) (sym c.if-not-have_form.ensures) form;
}

pub chunks-requires : goal.chunks-requires
chunks-requires c = omega (arith, c.few_tokens.ensures c.args.input.now c.args.tokens.now c.requires.scanned, c.requires.size)

pub returns-in-None : goal.returns-in-None
returns-in-None c = record {
  form = c.requires.form;
  other = λ us form.
      unlike_declarations c.args.input.now c.args.tokens.now us (map seen c.as_slice-2.result.now)
      (c.one_list.ensures c.args.input.now c.args.tokens.now us c.requires.scanned form.scanned)
      (ap (map seen) c.as_slice-2.ensures.value ∙ c.in_ok-declarations.ensures) (rw c.in-None.is at c.in_ok-names_of.ensures) form;
}

pub make_report-requires-clause-faults : goal.make_report-requires-clause-faults
make_report-requires-clause-faults c =
    let form = has_form c.args.input.now c.args.tokens.now (map seen c.as_slice-2.result.now) c.requires.text c.requires.scanned (sym c.if-not-have_form.ensures)
    (ap (map seen) c.as_slice-2.ensures.value ∙ c.in_ok-declarations.ensures) ((rw c.in-Some.is at c.in_ok-names_of.ensures).0) in
    rights_told c.args.input.now c.args.tokens.now (map seen c.as_slice-in-Some.result.now) c.as_slice-in-Some-2.result.now c.requires.form form
    (ap (map seen) c.as_slice-in-Some.ensures.value ∙ c.in_ok-declarations.ensures) (c.as_slice-in-Some-2.ensures.value ∙ c.in_ok-faults-in-Some.ensures)

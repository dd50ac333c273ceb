use Rattle.std.proofs.Common.{◌∙◌}
use Rattle.goserve.proofs.Reporting.{form_told}
use Rattle.goserve.proofs.answering.report_form.Goals as goal

pub make_report-requires-clause-faults : goal.make_report-requires-clause-faults
make_report-requires-clause-faults c = form_told c.args.input.now c.args.found.now c.as_slice.result.now c.requires.found c.requires.faulty (c.as_slice.ensures.value ∙ c.in_ok-faults.ensures)

use Rattle.goserve.proofs.Reporting.{clean_is}
use Rattle.goserve.proofs.answering.make_report.Goals as goal

pub returns : goal.returns
returns c = record {
  faults = c.args.faults.now;
  are = c.requires.faults;
  output = c.in_ok-output.ensures;
  clean = clean_is _ _ c.is_empty.ensures;
}

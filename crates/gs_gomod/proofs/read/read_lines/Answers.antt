use Rattle.std.proofs.Common.{arith}
use Rattle.gs_gomod.proofs.FormLemmas.{leads_next}
use Rattle.gs_gomod.proofs.read.read_lines.Goals as goal

pub loop-line-preserved : goal.loop-line-preserved
loop-line-preserved c = record {
  leads = leads_next _ _ _ _ _ _ c.loop-line-test.true c.loop-line.invariant.count c.loop-line.invariant.leads c.in_ok-read_line.ensures;
  count = omega (arith, c.loop-line.invariant.count);
}

use Rattle.gs_rows.proofs.Filling.{whole_fits}
use Rattle.gs_rows.proofs.table.whole.Goals as goal

pub invariant_of-result : goal.invariant_of-result
invariant_of-result c = record { few = c.requires.few; fits = whole_fits c.args.tokens.now c.args.table.now c.requires.table }

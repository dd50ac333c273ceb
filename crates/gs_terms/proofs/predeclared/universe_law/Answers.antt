use Rattle.gs_terms.proofs.UniverseLaws.{each_counts}
use Rattle.gs_terms.proofs.predeclared.universe_law.Goals as goal

pub returns : goal.returns
returns c = each_counts

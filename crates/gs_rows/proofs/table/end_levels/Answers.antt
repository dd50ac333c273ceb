use Rattle.std.proofs.Common.{refl}
use Rattle.gs_grammar.specs.Reference.{rows}
use Rattle.gs_places.specs.Places.{stands}
use Rattle.gs_rows.proofs.table.end_levels.Goals as goal

pub returns : goal.returns
unfolding stands rows
returns c = refl

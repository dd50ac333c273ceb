use Rattle.std.proofs.Common.{refl}
use Rattle.gs_grammar.specs.Reference.{rows}
use Rattle.gs_places.specs.Places.{stands, place}
use Rattle.gs_rows.proofs.table.end_place.Goals as goal

pub returns : goal.returns
unfolding stands rows place
returns c = rw (c.end_levels.ensures, c.end_levels-2.ensures) refl

use Rattle.std.proofs.Common.{◌≡◌}
use Rattle.gs_places.specs.Places.{last, places}
use Rattle.gs_rows.proofs.table.places_of.Given as goal

abbrev pub invariant-loop-i : goal.invariant-loop-i
invariant-loop-i l = l.found.items ≡ places (last l.i l.tokens)

use Rattle.std.proofs.Common.{◌≡◌, suc, ◌-◌, length}
use Rattle.gs_places.specs.Places.{stands}
use Rattle.gs_build_base.specs.Pieces.{whole, joined}
use Rattle.gs_build_clauses.proofs.clauses.type_clauses_tree.Given as goal

-- the list of the place is what was found, and then the list of what is left
abbrev pub invariant-turns : goal.invariant-turns
invariant-turns g l = whole ((stands l.fn.s.tokens.now).type_clauses) ≡ joined l.found (whole ((stands l.rest.tokens.now).type_clauses))

-- each turn finds an item
abbrev pub decreases-turns : goal.decreases-turns
decreases-turns g l = suc (length l.s.tokens.now) - length l.found

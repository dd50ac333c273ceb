-- What comes of pieces that are put together.
use Rattle.std.specs.Prelude.{◌≡◌, Result, Ok, Err}
use Rattle.gs_build_base.specs.declared.pieces.Piece.{Piece}
use Rattle.gs_build_base.specs.declared.pieces.Stop.{Stop}
use Rattle.gs_build_base.specs.declared.pieces.Stop.TheVariants as stop

-- the same tree in a box, unless memory runs out
abbrev pub IsBoxed : {A : Type 0} → Result (Piece A) Stop → Result (Piece A) Stop → Type 0
IsBoxed made (Ok p) = made ≡ Ok p
IsBoxed made (Err stop.Absent) = made ≡ Err stop.Absent
IsBoxed made (Err stop.NoMemory) = Unit {0}

-- both trees, and what is left behind the second, or why one of them is not there
abbrev pub IsPair : {A B : Type 0} → Result (Piece A) Stop → Result (Piece B) Stop → Result (Piece (A × B)) Stop → Type 0
IsPair (Err e) two r = r ≡ Err e
IsPair (Ok p) (Err e) r = r ≡ Err e
IsPair (Ok p) (Ok q) r = r ≡ Ok (record { tree = (p.tree, q.tree); rest = q.rest })

-- this, unless memory runs out
abbrev pub IsMade : {A : Type 0} → A → Result A Stop → Type 0
IsMade x (Ok y) = y ≡ x
IsMade x (Err stop.NoMemory) = Unit {0}
IsMade x (Err stop.Absent) = ⊥

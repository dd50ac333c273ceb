-- What is answered of a tree that was built.
use Rattle.std.specs.Prelude.{◌≡◌, ℕ, ◌-◌, length, Result, Ok, Err}
use Rattle.gs_build_base.specs.declared.pieces.Piece.{Piece}
use Rattle.gs_build_base.specs.declared.pieces.Stop.{Stop}
use Rattle.gs_build_base.specs.declared.pieces.Stop.TheVariants as stop
use Rattle.gs_ends.specs.declared.parsed.Parsed.{Parsed}
use Rattle.gs_ends.specs.declared.parsed.Parsed.TheVariants as parsed

-- the tree, in a list of so many tokens
abbrev pub IsBuilt : {T : Type 0} → ℕ → Result (Piece T) Stop → Parsed T → Type 0
IsBuilt count (Ok p) result = result ≡ parsed.Tree p.tree (count - length p.rest.tokens.now)
IsBuilt count (Err stop.Absent) result = result ≡ parsed.None
IsBuilt count (Err stop.NoMemory) result = result ≡ parsed.NoMemory

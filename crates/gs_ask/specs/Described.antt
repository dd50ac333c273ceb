-- What a finite map from names to descriptions stands for.
use Rattle.std.specs.Prelude.{List, [], ◌∷◌, Some, if◌then◌else◌}
use Rattle.gs_ask.specs.declared.map_importer.Described.{Described}
use Rattle.gs_ask.specs.Reply.{known, absent, Sigs}
use Rattle.gs_terms.specs.Identity.{same_symbol}

-- The first description that bears the name; a name without one isn't declared.
abbrev pub said_of : List Described → Sigs
said_of [] s = Some absent
said_of (d ∷ ds) s = if same_symbol d.symbol s then Some (known d.sig) else said_of ds s

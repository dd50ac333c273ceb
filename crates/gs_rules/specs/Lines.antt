-- What is written of a check.
use Rattle.std.specs.Prelude.{ℕ, ◌+◌, ◌==◌, nat_lt, if◌then◌else◌, List, [], ◌∷◌, ◌++◌, length, take, codes}
pub use Rattle.std.specs.Fmt.{decimal}
use Rattle.gs_rules.specs.declared.fault.Fault.{Fault}
use Rattle.gs_rules.specs.declared.place.Place.{Place}

-- the place of the first byte
abbrev pub front : Place
front = record { line = 1; column = 1 }

-- the place behind a byte: a line ends at LF
abbrev pub behind_byte : Place → ℕ → Place
behind_byte p b = if b == 10 then record { line = p.line + 1; column = 1 } else record { line = p.line; column = p.column + 1 }

-- the place behind some bytes
abbrev pub place_behind : Place → List ℕ → Place
place_behind p [] = p
place_behind p (b ∷ bs) = place_behind (behind_byte p b) bs

-- the place of an offset
abbrev pub place_of : List ℕ → ℕ → Place
place_of input offset = place_behind front (take offset input)

-- `G01`
abbrev pub code_text : ℕ → List ℕ
code_text code = (if nat_lt code 10 then codes "G0" else codes "G") ++ decimal code

-- PATH:LINE:COLUMN: CODE TEXT
unfoldable pub place_text : List ℕ → Place → List ℕ
place_text file p = file ++ codes ":" ++ decimal p.line ++ codes ":" ++ decimal p.column

unfoldable pub fault_line : Place → Fault → List ℕ
fault_line p f = place_text f.file p ++ codes ": " ++ code_text f.code ++ codes " " ++ f.text ++ codes "\n"

abbrev pub lines_of : List ℕ → List Fault → List ℕ
lines_of input [] = []
lines_of input (f ∷ fs) = fault_line (place_of input f.span.offset) f ++ lines_of input fs

-- packages of the graph, packages that were typed, packages that were loaded, faults
unfoldable pub counts_line : ℕ → ℕ → ℕ → ℕ → List ℕ
counts_line packages checked loaded faults = codes "packages " ++ decimal packages ++ codes " checked " ++ decimal checked
    ++ codes " loaded " ++ decimal loaded ++ codes " faults " ++ decimal faults ++ codes "\n"

-- the bytes that are written for one file with these faults: a line for each, and the counts
unfoldable pub output_of : List ℕ → List Fault → List ℕ
output_of input faults = lines_of input faults ++ counts_line 1 1 0 (length faults)

-- The names of the universe block (Go specification, "Predeclared identifiers").
use Rattle.std.specs.Prelude.{ℕ, Bool, false, ◌||◌, List, [], ◌∷◌, codes}
use Rattle.std.specs.Str.{bytes_eq}

abbrev pub is_one_of : List (List ℕ) → List ℕ → Bool
is_one_of [] name = false
is_one_of (w ∷ ws) name = bytes_eq name w || is_one_of ws name

abbrev pub types : List (List ℕ)
types = codes "bool" ∷ codes "byte" ∷ codes "complex64" ∷ codes "complex128" ∷ codes "error" ∷ codes "float32" ∷ codes "float64"
    ∷ codes "int" ∷ codes "int8" ∷ codes "int16" ∷ codes "int32" ∷ codes "int64" ∷ codes "rune" ∷ codes "string" ∷ codes "uint"
    ∷ codes "uint8" ∷ codes "uint16" ∷ codes "uint32" ∷ codes "uint64" ∷ codes "uintptr" ∷ []

-- the constants and the zero value
abbrev pub constants : List (List ℕ)
constants = codes "true" ∷ codes "false" ∷ codes "iota" ∷ codes "nil" ∷ []

abbrev pub functions : List (List ℕ)
functions = codes "append" ∷ codes "cap" ∷ codes "close" ∷ codes "complex" ∷ codes "copy" ∷ codes "delete" ∷ codes "imag"
    ∷ codes "len" ∷ codes "make" ∷ codes "new" ∷ codes "panic" ∷ codes "print" ∷ codes "println" ∷ codes "real" ∷ codes "recover" ∷ []

abbrev pub is_universe : List ℕ → Bool
is_universe name = is_one_of types name || (is_one_of constants name || is_one_of functions name)

-- The words of the command line.
use Rattle.std.specs.Prelude.{◌≡◌, List, [], ◌∷◌, codes, map, string_bytes}
use Rattle.std.specs.declared.string.String.{String}
use Rattle.std.specs.declared.alloc.Global.{Global}

-- the words are the one command: check the file on the standard input
abbrev pub IsCommand : List (String Global) → Type 0
IsCommand words = map string_bytes words ≡ codes "check" ∷ codes "-" ∷ []

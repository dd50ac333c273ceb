-- The files of a source map: a finite map from the bytes of a path to the bytes of its file.
use Rattle.std.specs.Prelude.{ℕ, List, map, string_bytes, String}
use Rattle.std.specs.Ordering.{nat_cmp}
use Rattle.std.specs.Cmp.Lexicographic.{slice_cmp}
use Rattle.std.specs.FinMap.{FinMap, from_entries}
use Rattle.std.specs.declared.alloc.Global.{Global}

abbrev pub FileMap : Type 0
FileMap = FinMap (slice_cmp nat_cmp) (List ℕ)

-- the map of a list of paths with their files
abbrev pub files_of : List (String Global × List ℕ) → FileMap
files_of entries = from_entries (map (λ e. (string_bytes e.0, e.1)) entries)

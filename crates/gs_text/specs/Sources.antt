use Rattle.std.specs.Prelude.{ℕ, List, Option, Some, None}
use Rattle.std.specs.FinMap.{get}
use Rattle.gs_text.specs.declared.sources.Sources.{Sources}

-- the first of two answers that is one
abbrev pub first_of : Option (List ℕ) → Option (List ℕ) → Option (List ℕ)
first_of (Some text) other = Some text
first_of None other = other

-- the text of a path: that of the open file, else that of the file on disk
abbrev pub text_of : Sources → List ℕ → Option (List ℕ)
text_of sources path = first_of (get sources.opened path) (get sources.disk path)

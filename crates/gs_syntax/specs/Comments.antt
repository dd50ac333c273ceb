-- Comments (Go specification, "Comments").
use Rattle.std.specs.Prelude.{◌≡◌, ◌≢◌, ℕ, Bool, false, ◌&&◌, ◌||◌, ◌==◌, List, [], ◌∷◌, ◌++◌, All, slice_index}

-- `*/` stands somewhere
abbrev pub has_close : List ℕ → Bool
has_close [] = false
has_close (c ∷ cs) = (c == 42 && slice_index cs 0 == 47) || has_close cs

-- a line comment: from `//` on, up to a line feed
abbrev pub IsLineComment : List ℕ → Type 0
IsLineComment bytes = (text : List ℕ) × (bytes ≡ 47 ∷ 47 ∷ text) × All (λ c. c ≢ 10) text

-- a general comment: from `/*` on up to the next `*/`
abbrev pub IsComment : List ℕ → Type 0
IsComment bytes = (text : List ℕ) × (bytes ≡ 47 ∷ 42 ∷ (text ++ 42 ∷ 47 ∷ [])) × (has_close (text ++ 42 ∷ []) ≡ false)

-- from `/*` on, without a `*/`
abbrev pub IsOpenComment : List ℕ → Type 0
IsOpenComment bytes = (text : List ℕ) × (bytes ≡ 47 ∷ 42 ∷ text) × (has_close text ≡ false)

-- Identifiers (Go specification, "Identifiers" and "Letters and digits").
use Rattle.std.specs.Prelude.{◌≡◌, ℕ, Bool, true, ◌||◌, ◌==◌, List, ◌∷◌, All, encode_utf8_all}
use Rattle.ucd_category.specs.GeneralCategory.{general_category, general_category_eq}
use Rattle.ucd_category.specs.GeneralCategoryGroup.{in_group}
use Rattle.ucd_category.specs.declared.GeneralCategory.TheVariants.{DecimalNumber}
use Rattle.ucd_category.specs.declared.GeneralCategoryGroup.TheVariants.{Letter}

-- `_`, or of Lu, Ll, Lt, Lm or Lo
unfoldable pub is_letter : ℕ → Bool
is_letter c = c == 95 || in_group Letter (general_category c)

-- a letter, or of Nd
unfoldable pub is_word_char : ℕ → Bool
is_word_char c = is_letter c || general_category_eq (general_category c) DecimalNumber

-- letters and digits
abbrev pub IsWord : List ℕ → Type 0
IsWord bytes = (cs : List ℕ) × All (λ c. is_word_char c ≡ true) cs × (bytes ≡ encode_utf8_all cs)

-- a letter, and then letters and digits
abbrev pub IsIdentifier : List ℕ → Type 0
IsIdentifier bytes = (c : ℕ) × (cs : List ℕ) × (is_letter c ≡ true) × All (λ d. is_word_char d ≡ true) cs × (bytes ≡ encode_utf8_all (c ∷ cs))

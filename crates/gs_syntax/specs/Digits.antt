-- Runs of digits (Go specification, "Integer literals").
use Rattle.std.specs.Prelude.{◌≡◌, ◌<◌, ℕ, Bool, true, ◌&&◌, ◌||◌, ◌==◌, List, [], ◌∷◌, length, slice_index}
use Rattle.std.specs.Char.{is_digit}

-- each byte is a digit of the base, or a `_` that a digit follows
abbrev pub are_digits : ℕ → List ℕ → Bool
are_digits base [] = true
are_digits base (c ∷ cs) = (is_digit c base || (c == 95 && is_digit (slice_index cs 0) base)) && are_digits base cs

-- digits, with single `_` between them
abbrev pub IsDigits : ℕ → List ℕ → Type 0
IsDigits base bytes = (is_digit (slice_index bytes 0) base ≡ true) × (are_digits base bytes ≡ true)

-- digits, before which a `_` may stand: so they are written behind a prefix
abbrev pub IsPrefixedDigits : ℕ → List ℕ → Type 0
IsPrefixedDigits base bytes = (0 < length bytes) × (are_digits base bytes ≡ true)

-- What the values that a token holds stand for.
use Rattle.std.specs.Prelude.{◌≡◌, ℕ, ℤ, pos, ◌≤◌, List, length, take, Option, Some, None}
use Rattle.gs_syntax.specs.declared.bytes.Held.{Held}
use Rattle.gs_syntax.specs.declared.bytes.Held.TheVariants.{Short, Long}
use Rattle.gs_syntax.specs.declared.whole.Size.{Size}
use Rattle.gs_syntax.specs.declared.whole.Size.TheVariants.{Small, Large, Wide}

-- the bytes, wherever they stand
abbrev pub bytes_of : Held → List ℕ
bytes_of (Short count first) = take count first
bytes_of (Long items) = items

-- no more bytes in the value itself than there is room for
abbrev pub IsWithin : Held → Type 0
IsWithin (Short count first) = count ≤ 14
IsWithin (Long items) = Unit {0}

-- this begins with the first 14 bytes of a text, or with all of it where it has fewer
abbrev pub IsFront : List ℕ → List ℕ → Type 0
IsFront text first = (n : ℕ) → n ≤ length text → n ≤ 14 → take n first ≡ take n text

-- the value of an integer
abbrev pub integer_of : Size → Option ℤ
integer_of (Small n) = Some (pos n)
integer_of (Large v) = Some v
integer_of Wide = None

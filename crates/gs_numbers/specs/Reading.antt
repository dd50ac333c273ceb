-- What the private functions compute: lengths of what stands at the front, 0 where it does not stand there.
use Rattle.std.specs.Prelude.{ℕ, Bool, ◌+◌, ◌&&◌, ◌||◌, ◌==◌, max, nat_lt, if◌then◌else◌, List, [], ◌∷◌, drop, slice_index, Option, Some, None}
use Rattle.std.specs.Char.{is_digit}
use Rattle.gs_syntax.specs.Numbers.{base_of, value_of}
use Rattle.gs_syntax.specs.Floats.{marks_exponent}

-- digits, or a `_` that a digit follows
abbrev pub digits_size : ℕ → List ℕ → ℕ
digits_size base [] = 0
digits_size base (c ∷ cs) = if is_digit c base || (c == 95 && is_digit (slice_index cs 0) base) then 1 + digits_size base cs else 0

-- digits of which the first is no `_`
abbrev pub run_size : ℕ → List ℕ → ℕ
run_size base text = if is_digit (slice_index text 0) base then digits_size base text else 0

-- `0`, a letter and digits of its base
abbrev pub lettered_size : Option ℕ → List ℕ → ℕ
lettered_size None text = 0
lettered_size (Some base) text = if digits_size base text == 0 then 0 else 2 + digits_size base text

-- an integer
unfoldable pub integer_size : List ℕ → ℕ
integer_size text =
    if slice_index text 0 == 48 then max (1 + digits_size 8 (drop 1 text)) (lettered_size (base_of (slice_index text 1)) (drop 2 text))
    else run_size 10 text

-- the value that the bytes of an integer have, by how they begin
abbrev pub lettered_value : Option ℕ → List ℕ → ℕ
lettered_value None bytes = value_of 8 bytes
lettered_value (Some base) bytes = value_of base (drop 2 bytes)

abbrev pub integer_value : List ℕ → ℕ
integer_value bytes = if slice_index bytes 0 == 48 then lettered_value (base_of (slice_index bytes 1)) bytes else value_of 10 bytes

abbrev pub sign_size : List ℕ → ℕ
sign_size text = if slice_index text 0 == 43 || slice_index text 0 == 45 then 1 else 0

-- the letter, a sign or none, and digits
unfoldable pub exponent_size : ℕ → List ℕ → ℕ
exponent_size base text =
    let sign = sign_size (drop 1 text) in
    let digits = run_size 10 (drop (1 + sign) text) in
    if marks_exponent base (slice_index text 0) && nat_lt 0 digits then 1 + sign + digits else 0

-- a point, and digits or none
unfoldable pub fraction_size : ℕ → List ℕ → ℕ
fraction_size base text = if slice_index text 0 == 46 then 1 + run_size base (drop 1 text) else 0

-- the fraction behind the digits at the front, and the exponent behind it
unfoldable pub fraction_behind : ℕ → List ℕ → ℕ
fraction_behind base text = fraction_size base (drop (digits_size base text) text)

unfoldable pub exponent_behind : ℕ → List ℕ → ℕ
exponent_behind base text = exponent_size base (drop (digits_size base text + fraction_behind base text) text)

-- a digit stands before the point or behind it
unfoldable pub has_digit : ℕ → List ℕ → Bool
has_digit base text = nat_lt 0 (digits_size base text) || nat_lt 1 (fraction_behind base text)

-- digits, a fraction and an exponent
unfoldable pub real_size : ℕ → List ℕ → ℕ
real_size base text = digits_size base text + fraction_behind base text + exponent_behind base text

-- floats of either base: with a point or an exponent in base 10, with an exponent in base 16
unfoldable pub decimal_float_size : List ℕ → ℕ
decimal_float_size text =
    if slice_index text 0 == 95 then 0
    else if has_digit 10 text && nat_lt 0 (fraction_behind 10 text + exponent_behind 10 text) then real_size 10 text else 0

unfoldable pub hex_float_size : List ℕ → ℕ
hex_float_size text =
    if slice_index text 0 == 48 && (slice_index text 1 == 120 || slice_index text 1 == 88) then
    (if has_digit 16 (drop 2 text) && nat_lt 0 (exponent_behind 16 (drop 2 text)) then 2 + real_size 16 (drop 2 text) else 0)
    else 0

unfoldable pub float_size : List ℕ → ℕ
float_size text = max (decimal_float_size text) (hex_float_size text)

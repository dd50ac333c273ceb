-- What a binary operator gives of two constants. Go specification, "Constant expressions", "Arithmetic operators",
-- "Integer operators", "Comparison operators", "Logical operators" and "String concatenation". Whole constants are
-- exact integers, and a result outside of signed 128 bits is refused.
use Rattle.std.specs.Prelude.{◌≡◌, ℕ, ◌-◌, ◌/◌, ◌^◌, ℤ, pos, negsuc, ◌+ℤ◌, ◌-ℤ◌, ◌*ℤ◌, Bool, true, false, not, ◌&&◌, ◌||◌, nat_lt, unsigned_abs, int_div, int_rem, List, ◌++◌, Result, Ok, Err, if◌then◌else◌}
use Rattle.std.specs.Int.{w128, int_bit_and, int_bit_or, int_bit_xor, int_bit_not, bit_at, is_negative}
use Rattle.std.specs.Ordering.{int_cmp, int_eq, nat_cmp, is_eq, is_lt, is_gt}
use Rattle.std.specs.Cmp.Lexicographic.{slice_cmp}
use Rattle.std.specs.declared.cmp.Ordering.{Ordering}
use Rattle.gs_terms.specs.declared.kinds.Op.{Op}
use Rattle.gs_terms.specs.declared.kinds.Op.TheVariants as op
use Rattle.gs_terms.specs.declared.kinds.ConstFault.{ConstFault}
use Rattle.gs_terms.specs.declared.kinds.ConstFault.TheVariants as fault
use Rattle.gs_terms.specs.declared.sig.Value.{Value}
use Rattle.gs_terms.specs.declared.sig.Value.TheVariants as value

-- n of n and of -(n + 1): both lie within signed 128 bits where it is below 2 ^ 127
abbrev pub magnitude : ℤ → ℕ
magnitude (pos n) = n
magnitude (negsuc n) = n

-- this integer, where signed 128 bits hold it
abbrev pub exact : ℤ → Result Value ConstFault
exact z = if nat_lt (magnitude z) (2 ^ 127) then Ok (value.Whole z) else Err fault.Wide

-- x / m, rounded down
abbrev pub floor : ℤ → ℕ → ℤ
floor (pos n) m = pos (n / m)
floor (negsuc n) m = negsuc (n / m)

-- what a comparison says of two values in this order
abbrev pub compared : Op → Ordering → Result Value ConstFault
compared op.Eq o = Ok (value.Truth (is_eq o))
compared op.Ne o = Ok (value.Truth (not (is_eq o)))
compared op.Lt o = Ok (value.Truth (is_lt o))
compared op.Le o = Ok (value.Truth (not (is_gt o)))
compared op.Gt o = Ok (value.Truth (is_gt o))
compared op.Ge o = Ok (value.Truth (not (is_lt o)))
compared _ o = Err fault.WrongKind

abbrev pub of_truths : Op → Bool → Bool → Result Value ConstFault
of_truths op.Eq true b = Ok (value.Truth b)
of_truths op.Eq false b = Ok (value.Truth (not b))
of_truths op.Ne true b = Ok (value.Truth (not b))
of_truths op.Ne false b = Ok (value.Truth b)
of_truths op.LogAnd a b = Ok (value.Truth (a && b))
of_truths op.LogOr a b = Ok (value.Truth (a || b))
of_truths _ a b = Err fault.WrongKind

-- Division truncates toward zero, and a shift is a multiplication by a power of two or a division that rounds down.
-- The bit operators see a negative number in two's complement.
abbrev pub of_wholes : Op → ℤ → ℤ → Result Value ConstFault
of_wholes op.Add x y = exact (x +ℤ y)
of_wholes op.Sub x y = exact (x -ℤ y)
of_wholes op.Mul x y = exact (x *ℤ y)
of_wholes op.Div x y = if int_eq y (pos 0) then Err fault.ZeroDivisor else exact (int_div x y)
of_wholes op.Rem x y = if int_eq y (pos 0) then Err fault.ZeroDivisor else exact (int_rem x y)
of_wholes op.And x y = Ok (value.Whole (int_bit_and w128 x y))
of_wholes op.Or x y = Ok (value.Whole (int_bit_or w128 x y))
of_wholes op.Xor x y = Ok (value.Whole (int_bit_xor w128 x y))
of_wholes op.AndNot x y = Ok (value.Whole (int_bit_and w128 x (int_bit_not w128 y)))
of_wholes op.Shl x y = if is_negative y then Err fault.BadShift else exact (x *ℤ pos (2 ^ unsigned_abs y))
of_wholes op.Shr x y = if is_negative y then Err fault.BadShift else exact (floor x (2 ^ unsigned_abs y))
of_wholes op.LogAnd x y = Err fault.WrongKind
of_wholes op.LogOr x y = Err fault.WrongKind
of_wholes other x y = compared other (int_cmp x y)

-- Texts compare byte by byte.
abbrev pub of_texts : Op → List ℕ → List ℕ → Result Value ConstFault
of_texts op.Add a b = Ok (value.Text (a ++ b))
of_texts other a b = compared other (slice_cmp nat_cmp a b)

abbrev pub const_op : Op → Value → Value → Result Value ConstFault
const_op op (value.Truth a) (value.Truth b) = of_truths op a b
const_op op (value.Whole x) (value.Whole y) = of_wholes op x y
const_op op (value.Text a) (value.Text b) = of_texts op a b
const_op op _ _ = Err fault.WrongKind

-- The answer is the one that is due, or memory was wanting.
abbrev pub Answers : Result Value ConstFault → Result Value ConstFault → Type 0
Answers due (Err fault.NoMemory) = Unit {0}
Answers due answer = answer ≡ due

-- the operator joins two texts, the only one that takes memory
abbrev pub Joins : Op → Value → Value → Type 0
Joins op.Add (value.Text a) (value.Text b) = Unit {0}
Joins _ _ _ = ⊥

-- bit k of an integer in two's complement, which has bits without end
abbrev pub bit : ℤ → ℕ → ℕ
bit (pos n) k = bit_at n k
bit (negsuc n) k = 1 - bit_at n k

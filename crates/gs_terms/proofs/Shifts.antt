-- What the shifts' answers rest on, in the bits that the code holds.
use Rattle.std.proofs.Common.{◌≡◌, ℕ, zero, suc, ◌-◌, ◌*◌, ◌/◌, ◌%◌, ◌^◌, ◌<◌, ◌≤◌, ℤ, pos, negsuc, ◌*ℤ◌, Bool, true, false, ◌⊎◌, inl, inr, Ok, Err, refl, ap, sym, ◌∙◌, arith, to_z, of_z, if◌then◌else◌, Result, unsigned_abs, FitsSigned}
use Rattle.std.specs.Int.{w128, is_negative}
use Rattle.std.specs.Int.Signed.{lt_z}
use Rattle.std.proofs.lemmas.Int.{to_z-of_z, to_z_pos}
use Rattle.std.proofs.lemmas.Bool.{true≢false, ltb-true, ltb-false, lt-ltb, le-ltb}
use Rattle.std.proofs.Math.Pow.{pow_mono, pow-lt}
use Rattle.std.proofs.Math.Nat.{mod-eq_of_lt, mul-le-mul_right, div-eq_of_lt}
use Rattle.std.proofs.Math.IntN.{neg_ℤ}
use Rattle.gs_terms.specs.declared.kinds.ConstFault.{ConstFault}
use Rattle.gs_terms.specs.declared.kinds.ConstFault.TheVariants as fault
use Rattle.gs_terms.specs.declared.sig.Value.{Value}
use Rattle.gs_terms.specs.declared.sig.Value.TheVariants as value
use Rattle.gs_terms.specs.Constant.{magnitude, exact, floor}

-- a test of a number's bits is the test of the number
pub of_bits : (z : ℤ) (k : ℕ) (b : Bool) → FitsSigned w128 z → lt_z (to_z w128 (of_z w128 z)) (pos k) ≡ b → lt_z z (pos k) ≡ b
of_bits z k b fits p = ap (λ y. lt_z y (pos k)) (sym (to_z-of_z w128 z fits)) ∙ p

pub wide : (z : ℤ) → 2 ^ 127 ≤ magnitude z → exact z ≡ Err fault.Wide
wide z h = ap (λ b. if b then Ok (value.Whole z) else Err fault.Wide) (le-ltb (magnitude z) (2 ^ 127) h)

pub held : (z : ℤ) → magnitude z < 2 ^ 127 → exact z ≡ Ok (value.Whole z)
held z h = ap (λ b. if b then Ok (value.Whole z) else Err fault.Wide) (lt-ltb (magnitude z) (2 ^ 127) h)

magnitude-neg : (m : ℕ) → magnitude (neg_ℤ (pos m)) ≡ m - 1
magnitude-neg zero = refl
magnitude-neg (suc m) = omega arith

one_times : (m : ℕ) → 1 * m ≡ m
one_times m = omega arith

-- 1 << k
pub power : (k : ℕ) → k < 127 → to_z w128 ((1 * 2 ^ k) % 2 ^ 128) ≡ pos (2 ^ k)
power k h =
    let small : 2 ^ k < 2 ^ 127 = pow-lt h in
    ap (λ m. to_z w128 (m % 2 ^ 128)) (one_times (2 ^ k)) ∙ ap (to_z w128) (mod-eq_of_lt (omega (arith, small))) ∙ to_z_pos w128 (2 ^ k) small

times : (n k : ℕ) → 1 ≤ n → 2 ^ k ≤ n * 2 ^ k
times n k h = omega (arith, mul-le-mul_right (2 ^ k) h, one_times (2 ^ k))

pow_above : (k : ℕ) → lt_z (pos k) (pos 127) ≡ false → 2 ^ 127 ≤ 2 ^ k
pow_above k b = pow_mono (ltb-false k 127 b)

twice : (n m : ℕ) → 2 * m ≤ suc (suc n) * m
twice n m = mul-le-mul_right m (omega arith)

pub left_wide : (x count : ℤ) → lt_z count (pos 0) ≡ false → lt_z count (pos 127) ≡ false → (of_z w128 x ≡ 0 → ⊥) →
    ((of_z w128 x ≡ 340282366920938463463374607431768211455 × (of_z w128 count ≡ 127 → ⊥)) ⊎ (of_z w128 x ≡ 340282366920938463463374607431768211455 → ⊥)) →
    2 ^ 127 ≤ magnitude (x *ℤ pos (2 ^ unsigned_abs count))
left_wide x (negsuc k) a b c d = (cc)
left_wide (pos zero) (pos k) a b c d = absurd (c refl)
left_wide (pos (suc n)) (pos k) a b c d = omega (arith, pow_above k b, times (suc n) k (omega arith))
left_wide (negsuc zero) (pos k) a b c (inl h) =
    let longer : 128 ≤ k = omega (arith, ltb-false k 127 b, h.1) in
    let above : 2 ^ 128 ≤ 2 ^ k = pow_mono longer in
    omega (arith, magnitude-neg (1 * 2 ^ k), one_times (2 ^ k), above)
left_wide (negsuc zero) (pos k) a b c (inr h) = absurd (h refl)
left_wide (negsuc (suc n)) (pos k) a b c d =
    omega (arith, magnitude-neg (suc (suc n) * 2 ^ k), pow_above k b, twice n (2 ^ k))

-- ---- the answers

ltb_zero : (n : ℕ) → lt_z (pos n) (pos 0) ≡ true → ⊥
ltb_zero n p = omega (arith, ltb-true n 0 p)

-- an answer for a count that is not negative
counted : (count : ℤ) (r e : Result Value ConstFault) → lt_z count (pos 0) ≡ false → r ≡ e → r ≡ (if is_negative count then Err fault.BadShift else e)
counted count r e a p = p ∙ ap (λ b. if b then Err fault.BadShift else e) (sym a)

pub left_short : (x count : ℤ) (r : Result Value ConstFault) → FitsSigned w128 x → FitsSigned w128 count →
    lt_z (to_z w128 (of_z w128 count)) (pos 0) ≡ false → lt_z (to_z w128 (of_z w128 count)) (pos 127) ≡ true →
    r ≡ exact (to_z w128 (of_z w128 x) *ℤ to_z w128 ((1 * 2 ^ of_z w128 count) % 2 ^ 128)) →
    r ≡ (if is_negative count then Err fault.BadShift else exact (x *ℤ pos (2 ^ unsigned_abs count)))
left_short x (negsuc k) r f g a b p = absurd (true≢false (of_bits (negsuc k) 0 false g a))
left_short x (pos k) r f g a b p =
    let short : k < 127 = ltb-true k 127 (of_bits (pos k) 127 true g b) in
    counted (pos k) r (exact (x *ℤ pos (2 ^ k))) (of_bits (pos k) 0 false g a)
    (p ∙ λ i. exact (to_z-of_z w128 x f i *ℤ power k short i))

pub left_long : (x count : ℤ) → FitsSigned w128 count →
    lt_z (to_z w128 (of_z w128 count)) (pos 0) ≡ false → (of_z w128 x ≡ 0 → ⊥) → lt_z (to_z w128 (of_z w128 count)) (pos 127) ≡ false →
    ((of_z w128 x ≡ 340282366920938463463374607431768211455 × (of_z w128 count ≡ 127 → ⊥)) ⊎ (of_z w128 x ≡ 340282366920938463463374607431768211455 → ⊥)) →
    Err fault.Wide ≡ (if is_negative count then Err fault.BadShift else exact (x *ℤ pos (2 ^ unsigned_abs count)))
left_long x count g a c b d =
    counted count (Err fault.Wide) (exact (x *ℤ pos (2 ^ unsigned_abs count))) (of_bits count 0 false g a)
    (sym (wide (x *ℤ pos (2 ^ unsigned_abs count)) (left_wide x count (of_bits count 0 false g a) (of_bits count 127 false g b) c d)))

gone : (n k : ℕ) → n < 2 ^ 127 → lt_z (pos k) (pos 127) ≡ false → n / 2 ^ k ≡ 0
gone n k h b = div-eq_of_lt (omega (arith, h, pow_above k b))

pub right_long_negative : (x count : ℤ) → FitsSigned w128 x → FitsSigned w128 count →
    lt_z (to_z w128 (of_z w128 count)) (pos 0) ≡ false → lt_z (to_z w128 (of_z w128 count)) (pos 127) ≡ false →
    lt_z (to_z w128 (of_z w128 x)) (pos 0) ≡ true →
    Ok (value.Whole (negsuc 0)) ≡ (if is_negative count then Err fault.BadShift else exact (floor x (2 ^ unsigned_abs count)))
right_long_negative x (negsuc k) f g a b c = absurd (true≢false (of_bits (negsuc k) 0 false g a))
right_long_negative (pos n) (pos k) f g a b c = absurd (ltb_zero n (of_bits (pos n) 0 true f c))
right_long_negative (negsuc n) (pos k) f g a b c =
    counted (pos k) (Ok (value.Whole (negsuc 0))) (exact (floor (negsuc n) (2 ^ k))) (of_bits (pos k) 0 false g a)
    (ap (λ m. exact (negsuc m)) (sym (gone n k f.sfits (of_bits (pos k) 127 false g b))))

pub right_long : (x count : ℤ) → FitsSigned w128 x → FitsSigned w128 count →
    lt_z (to_z w128 (of_z w128 count)) (pos 0) ≡ false → lt_z (to_z w128 (of_z w128 count)) (pos 127) ≡ false →
    lt_z (to_z w128 (of_z w128 x)) (pos 0) ≡ false →
    Ok (value.Whole (pos 0)) ≡ (if is_negative count then Err fault.BadShift else exact (floor x (2 ^ unsigned_abs count)))
right_long x (negsuc k) f g a b c = absurd (true≢false (of_bits (negsuc k) 0 false g a))
right_long (negsuc n) (pos k) f g a b c = absurd (true≢false (of_bits (negsuc n) 0 false f c))
right_long (pos n) (pos k) f g a b c =
    counted (pos k) (Ok (value.Whole (pos 0))) (exact (floor (pos n) (2 ^ k))) (of_bits (pos k) 0 false g a)
    (ap (λ m. exact (pos m)) (sym (gone n k f.sfits (of_bits (pos k) 127 false g b))))

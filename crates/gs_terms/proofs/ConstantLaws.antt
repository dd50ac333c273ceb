-- What division, shifts and the bit operators mean.
use Rattle.std.proofs.Common.{◌≡◌, ℕ, zero, suc, ◌+◌, ◌-◌, ◌*◌, ◌/◌, ◌%◌, ◌^◌, ◌<◌, ◌≤◌, min, max, ℤ, pos, negsuc, ◌+ℤ◌, ◌*ℤ◌, Bool, true, cond, inl, inr, refl, ap, sym, ◌∙◌, arith, to_z, of_z, unsigned_abs, FitsSigned, bit_and, bit_or, bit_xor, int_div}
use Rattle.std.specs.Prelude.{int_lt, int_le}
use Rattle.std.specs.Int.{w128, int_bit_and, int_bit_or, int_bit_xor, int_bit_not, bit_at, bit_not}
use Rattle.std.proofs.lemmas.Int.{to_z-of_z, to_z_pos}
use Rattle.std.proofs.lemmas.Bool.{le-leb, lt-ltb, cases_lt}
use Rattle.std.proofs.lemmas.Nat.{div-add-mod', and_le_l, or_lt, xor_lt}
use Rattle.std.proofs.lemmas.Nat.Bits.{bit_at_and, bit_at_or, bit_at_xor, bit_at_not}
use Rattle.std.proofs.Math.Facts.{to_z-neg, sfits_to_z, Fits-bits}
use Rattle.std.proofs.Math.IntN.{neg_ℤ}
use Rattle.std.proofs.Math.Nat.{div-eq_of_lt, mod-lt, suc-mul}
use Rattle.std.proofs.Math.Pow.{pow_mono}
use Rattle.std.specs.Prelude.{Result, Ok, Err, if◌then◌else◌}
use Rattle.gs_terms.specs.Constant.{bit, exact, floor}
use Rattle.gs_terms.specs.declared.kinds.ConstFault.{ConstFault}
use Rattle.gs_terms.specs.declared.kinds.ConstFault.TheVariants as fault
use Rattle.gs_terms.specs.declared.sig.Value.{Value}
use Rattle.gs_terms.specs.declared.sig.Value.TheVariants as value

-- ---- what 128 bits hold

abbrev held : Bool → ℤ → Result Value ConstFault
held b z = if b then Ok (value.Whole z) else Err fault.Wide

pub exact_fits : (z : ℤ) → FitsSigned w128 z → exact z ≡ Ok (value.Whole z)
exact_fits (pos n) f = ap (λ b. held b (pos n)) (lt-ltb n (2 ^ 127) (omega (arith, f.sfits)))
exact_fits (negsuc n) f = ap (λ b. held b (negsuc n)) (lt-ltb n (2 ^ 127) (omega (arith, f.sfits)))

no_fault : (z : ℤ) (r : Result Value ConstFault) → r ≡ Ok (value.Whole z) → r ≡ Err fault.Wide → ⊥
no_fault z r h h' = (cc)

pub exact_wide : (z : ℤ) → exact z ≡ Err fault.Wide → FitsSigned w128 z → ⊥
exact_wide z h f = no_fault z (exact z) (exact_fits z f) h

-- ---- division

abs-neg : (m : ℕ) → unsigned_abs (neg_ℤ (pos m)) ≡ m
abs-neg zero = refl
abs-neg (suc m) = refl

pub toward_zero : (x y : ℤ) → unsigned_abs (int_div x y) ≡ unsigned_abs x / unsigned_abs y
toward_zero (pos a) (pos b) = refl
toward_zero (pos a) (negsuc b) = abs-neg (a / suc b)
toward_zero (negsuc a) (pos b) = abs-neg (suc a / b)
toward_zero (negsuc a) (negsuc b) = refl

-- ---- rounding down

add_one : (q : ℕ) → q + 1 ≡ suc q
add_one q = omega arith

add_one_is : (q m : ℕ) → (q + 1) * m ≡ suc q * m
add_one_is q m = ap (λ k. k * m) (add_one q)

le_neg : (a n : ℕ) → n < a → int_le (neg_ℤ (pos a)) (negsuc n) ≡ true
le_neg zero n h = absurd (omega (arith, h))
le_neg (suc j) n h = le-leb n j (omega (arith, h))

lt_neg : (a n : ℕ) → a ≤ n → int_lt (negsuc n) (neg_ℤ (pos a)) ≡ true
lt_neg zero n h = refl
lt_neg (suc j) n h = lt-ltb j n (omega (arith, h))

less_two : (p : ℕ) → suc (suc p) - 2 ≡ p
less_two p = omega arith

step : (p : ℕ) → (negsuc (suc p) +ℤ pos 1) ≡ negsuc p
step p =
    ap (λ b. cond b (negsuc (suc (suc p) - 2)) (pos (1 - suc (suc p)))) (lt-ltb 1 (suc (suc p)) (omega arith)) ∙ ap negsuc (less_two p)

lt_next : (q m n : ℕ) → q * m ≤ n → int_lt (negsuc n) ((negsuc q +ℤ pos 1) *ℤ pos m) ≡ true
lt_next zero m n h = refl
lt_next (suc p) m n h = ap (λ z. int_lt (negsuc n) (z *ℤ pos m)) (step p) ∙ lt_neg (suc p * m) n h

pub floor_low : (x : ℤ) (m : ℕ) → 0 < m → int_le (floor x m *ℤ pos m) x ≡ true
floor_low (pos n) m h = le-leb (n / m * m) n (omega (arith, div-add-mod' n m))
floor_low (negsuc n) m h = le_neg (suc (n / m) * m) n (omega (arith, div-add-mod' n m, suc-mul (n / m) m, mod-lt n h))

pub floor_high : (x : ℤ) (m : ℕ) → 0 < m → int_lt x ((floor x m +ℤ pos 1) *ℤ pos m) ≡ true
floor_high (pos n) m h =
    let next : n < (n / m + 1) * m = omega (arith, div-add-mod' n m, suc-mul (n / m) m, mod-lt n h, add_one_is (n / m) m) in
    lt-ltb n ((n / m + 1) * m) next
floor_high (negsuc n) m h = lt_next (n / m) m n (omega (arith, div-add-mod' n m))

-- ---- bits

-- the bits of a number below a power are 0 from that power on
no_bit : (n j k : ℕ) → n < 2 ^ j → j ≤ k → bit_at n k ≡ 0
no_bit n j k h g = ap (λ q. q % 2) (div-eq_of_lt (omega (arith, h, pow_mono g)))

min_low : (k : ℕ) → k ≤ 127 → min k 127 ≡ k
min_low k h = omega (arith, h)

min_high : (k : ℕ) → 127 ≤ k → min k 127 ≡ 127
min_high k h = omega (arith, h)

-- the sign bit goes on for ever
low_bit : (m k : ℕ) → m < 2 ^ 127 → bit (to_z w128 m) k ≡ bit_at m (min k 127)
low_bit m k h = ap (λ z. bit z k) (to_z_pos w128 m h) ∙ elim (cases_lt k 128) [
  | inl g ↦ ap (bit_at m) (sym (min_low k (omega (arith, g))))
  | inr g ↦ no_bit m 127 k h (omega (arith, g)) ∙ sym (no_bit m 127 127 h (omega arith)) ∙ ap (bit_at m) (sym (min_high k (omega (arith, g))))
]

-- m is 2 ^ 128 - 1 - n
high_bit : (n k : ℕ) → n < 2 ^ 127 → bit (negsuc n) k ≡ bit_at (2 ^ 128 - suc n) (min k 127)
high_bit n k h =
    let same : 2 ^ 128 - suc n ≡ bit_not w128 n = omega arith in
    let turned : (i : ℕ) → i < 128 → bit_at (2 ^ 128 - suc n) i ≡ 1 - bit_at n i =
    λ i g. ap (λ m. bit_at m i) same ∙ bit_at_not w128 n i (omega (arith, h)) g in
    elim (cases_lt k 128) [
      | inl g ↦ sym (turned k g) ∙ ap (bit_at (2 ^ 128 - suc n)) (sym (min_low k (omega (arith, g))))
      | inr g ↦ ap (λ b. 1 - b) (no_bit n 127 k h (omega (arith, g)) ∙ sym (no_bit n 127 127 h (omega arith))) ∙ sym (turned 127 (omega arith))
          ∙ ap (bit_at (2 ^ 128 - suc n)) (sym (min_high k (omega (arith, g))))
    ]

pub stored_bit : (m k : ℕ) → m < 2 ^ 128 → bit (to_z w128 m) k ≡ bit_at m (min k 127)
stored_bit m k h = elim (cases_lt m (2 ^ 127)) [
  | inl g ↦ low_bit m k g
  | inr g ↦
      let n : ℕ = 2 ^ 128 - suc m in
      let small : n < 2 ^ 127 = omega (arith, g, h) in
      let back : 2 ^ 128 - suc n ≡ m = omega (arith, g, h) in
      ap (λ v. bit (to_z w128 v) k) (sym back) ∙ ap (λ z. bit z k) (to_z-neg w128 n small) ∙ high_bit n k small ∙ ap (λ v. bit_at v (min k 127)) back
]

pub stored : (x : ℤ) → FitsSigned w128 x → of_z w128 x < 2 ^ 128
stored (pos n) f = omega (arith, f.sfits)
stored (negsuc n) f = omega (arith, f.sfits)

given_bit : (x : ℤ) (k : ℕ) → FitsSigned w128 x → bit x k ≡ bit_at (of_z w128 x) (min k 127)
given_bit x k f = ap (λ z. bit z k) (sym (to_z-of_z w128 x f)) ∙ stored_bit (of_z w128 x) k (stored x f)

pub bit_of_and : (x y : ℤ) (k : ℕ) → FitsSigned w128 x → FitsSigned w128 y → bit (int_bit_and w128 x y) k ≡ min (bit x k) (bit y k)
bit_of_and x y k f g =
    stored_bit (bit_and (of_z w128 x) (of_z w128 y)) k (omega (arith, and_le_l (of_z w128 x) (of_z w128 y), stored x f))
    ∙ bit_at_and (of_z w128 x) (of_z w128 y) (min k 127)
    ∙ ap (λ b. min b (bit_at (of_z w128 y) (min k 127))) (sym (given_bit x k f))
    ∙ ap (min (bit x k)) (sym (given_bit y k g))

pub bit_of_or : (x y : ℤ) (k : ℕ) → FitsSigned w128 x → FitsSigned w128 y → bit (int_bit_or w128 x y) k ≡ max (bit x k) (bit y k)
bit_of_or x y k f g =
    stored_bit (bit_or (of_z w128 x) (of_z w128 y)) k (or_lt 128 (of_z w128 x) (of_z w128 y) (stored x f) (stored y g))
    ∙ bit_at_or (of_z w128 x) (of_z w128 y) (min k 127)
    ∙ ap (λ b. max b (bit_at (of_z w128 y) (min k 127))) (sym (given_bit x k f))
    ∙ ap (max (bit x k)) (sym (given_bit y k g))

pub bit_of_xor : (x y : ℤ) (k : ℕ) → FitsSigned w128 x → FitsSigned w128 y → bit (int_bit_xor w128 x y) k ≡ (bit x k + bit y k) % 2
bit_of_xor x y k f g =
    stored_bit (bit_xor (of_z w128 x) (of_z w128 y)) k (xor_lt 128 (of_z w128 x) (of_z w128 y) (stored x f) (stored y g))
    ∙ bit_at_xor (of_z w128 x) (of_z w128 y) (min k 127)
    ∙ ap (λ b. (b + bit_at (of_z w128 y) (min k 127)) % 2) (sym (given_bit x k f))
    ∙ ap (λ b. (bit x k + b) % 2) (sym (given_bit y k g))

turned_small : (y : ℤ) → FitsSigned w128 y → bit_not w128 (of_z w128 y) < 2 ^ 128
turned_small y g = omega arith

bit_of_not : (y : ℤ) (k : ℕ) → FitsSigned w128 y → bit (int_bit_not w128 y) k ≡ 1 - bit y k
bit_of_not y k g =
    stored_bit (bit_not w128 (of_z w128 y)) k (turned_small y g)
    ∙ bit_at_not w128 (of_z w128 y) (min k 127) (stored y g) (omega arith)
    ∙ ap (λ b. 1 - b) (sym (given_bit y k g))

pub bit_of_and_not : (x y : ℤ) (k : ℕ) → FitsSigned w128 x → FitsSigned w128 y →
    bit (int_bit_and w128 x (int_bit_not w128 y)) k ≡ min (bit x k) (1 - bit y k)
bit_of_and_not x y k f g =
    bit_of_and x (int_bit_not w128 y) k f (sfits_to_z (Fits-bits 128 tt (turned_small y g))) ∙ ap (min (bit x k)) (bit_of_not y k g)

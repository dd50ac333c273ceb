-- How many characters fit into so many units.
use Rattle.std.proofs.Common.{◌≡◌, ℕ, zero, suc, ◌+◌, ◌-◌, ◌<◌, ◌≤◌, List, [], ◌∷◌, length, take, drop, ◌∙◌, ap, arith, ⊎_elim}
use Rattle.std.specs.Prelude.{nat_le, encode_utf8}
use Rattle.std.specs.Str.{encode_utf8_all}
use Rattle.std.specs.Char.{len_utf8}
use Rattle.std.proofs.lemmas.Bool.{cases_eq, cases_lt, leb-true, le-leb}
use Rattle.std.proofs.lemmas.Bool.Decides.{nat_tests}
use Rattle.std.proofs.lemmas.List.{length-append, take-append-drop}
use Rattle.std.proofs.lemmas.List.Sums.{sum_by-cons}
use Rattle.std.proofs.lemmas.Str.{length-encode, encodes-append}
use Rattle.gs_text.specs.declared.position.PosUnit.{PosUnit}
use Rattle.gs_text.specs.declared.position.PosUnit.TheVariants.{Utf16}
use Rattle.gs_text.specs.Units.{units_of, units_of_character}
use Rattle.gs_text.specs.Positions.{fitting}
use Rattle.gs_text.proofs.Greatest.{greatest-le, greatest-passes, greatest-most}

pub units_of-cons : (unit : PosUnit) (c : ℕ) (cs : List ℕ) → units_of unit (c ∷ cs) ≡ units_of_character unit c + units_of unit cs
units_of-cons unit c cs = sum_by-cons (units_of_character unit) c cs

pub fitting-le : (unit : PosUnit) (cs : List ℕ) (most : ℕ) → fitting unit cs most ≤ length cs
fitting-le unit cs most = greatest-le (λ n. nat_le (units_of unit (take n cs)) most) (length cs)

pub fitting-fits : (unit : PosUnit) (cs : List ℕ) (most : ℕ) → units_of unit (take (fitting unit cs most) cs) ≤ most
fitting-fits unit cs most =
    leb-true _ _ (greatest-passes (λ n. nat_le (units_of unit (take n cs)) most) (length cs) (le-leb (units_of unit (take 0 cs)) most (omega arith)))

pub fitting-most : (unit : PosUnit) (cs : List ℕ) (most n : ℕ) → n ≤ length cs → units_of unit (take n cs) ≤ most → n ≤ fitting unit cs most
fitting-most unit cs most n within fits =
    greatest-most (λ k. nat_le (units_of unit (take k cs)) most) (length cs) n within (le-leb _ _ fits)

-- a number that fits where one more does not
pub fitting_is : (unit : PosUnit) (cs : List ℕ) (most n : ℕ) → n ≤ length cs → units_of unit (take n cs) ≤ most → ((k : ℕ) → n < k → k ≤ length cs → most < units_of unit (take k cs)) → fitting unit cs most ≡ n
fitting_is unit cs most n within fits next =
    let low = fitting-most unit cs most n within fits in
    let high = fitting-fits unit cs most in
    let short = fitting-le unit cs most in
    ⊎_elim
    (λ same. same)
    (λ other. absurd (omega (arith, next (fitting unit cs most) (omega (arith, other)) short)))
    (cases_eq (fitting unit cs most) n)

-- one more character than fits
beyond_first : (unit : PosUnit) (c : ℕ) (cs : List ℕ) (most k : ℕ) → suc (fitting unit cs (most - units_of_character unit c)) < k → k ≤ suc (length cs) → most < units_of unit (take k (c ∷ cs))
beyond_first unit c cs most zero over within = absurd (omega arith)
beyond_first unit c cs most (suc k) over within =
    let left : ℕ = most - units_of_character unit c in
    let whole = units_of-cons unit c (take k cs) in
    ⊎_elim
    (λ wide. omega (arith, wide, whole))
    (λ fits. let low = fitting-most unit cs left k (omega arith) fits in absurd (omega (arith, low)))
    (cases_lt left (units_of unit (take k cs)))

beyond_none : (unit : PosUnit) (c : ℕ) (cs : List ℕ) (most k : ℕ) → most < units_of_character unit c → 0 < k → most < units_of unit (take k (c ∷ cs))
beyond_none unit c cs most zero wide over = absurd (omega arith)
beyond_none unit c cs most (suc k) wide over = omega (arith, units_of-cons unit c (take k cs))

-- the first character fits, and then those behind it into what is left
pub fitting_first : (unit : PosUnit) (c : ℕ) (cs : List ℕ) (most : ℕ) → units_of_character unit c ≤ most → fitting unit (c ∷ cs) most ≡ suc (fitting unit cs (most - units_of_character unit c))
fitting_first unit c cs most fits =
    let left : ℕ = most - units_of_character unit c in
    let n : ℕ = fitting unit cs left in
    let short = fitting-le unit cs left in
    let inside = fitting-fits unit cs left in
    fitting_is unit (c ∷ cs) most (suc n)
    (omega (arith, short))
    (omega (arith, inside, units_of-cons unit c (take n cs)))
    (λ k over within. beyond_first unit c cs most k over within)

pub fitting_none : (unit : PosUnit) (c : ℕ) (cs : List ℕ) (most : ℕ) → most < units_of_character unit c → fitting unit (c ∷ cs) most ≡ 0
fitting_none unit c cs most wide =
    fitting_is unit (c ∷ cs) most 0 (omega arith) (omega arith) (λ k over within. beyond_none unit c cs most k wide over)

-- the bytes of the characters that fit
abbrev pub fit_len : PosUnit → ℕ → List ℕ → ℕ
fit_len unit most cs = length (encode_utf8_all (take (fitting unit cs most) cs))

pub fit_len-first : (unit : PosUnit) (c : ℕ) (cs : List ℕ) (most : ℕ) → units_of_character unit c ≤ most → fit_len unit most (c ∷ cs) ≡ len_utf8 c + fit_len unit (most - units_of_character unit c) cs
fit_len-first unit c cs most fits =
    let left : ℕ = most - units_of_character unit c in
    ap (λ n. length (encode_utf8_all (take n (c ∷ cs)))) (fitting_first unit c cs most fits)
    ∙ length-append (encode_utf8 c) (encode_utf8_all (take (fitting unit cs left) cs))
    ∙ ap (λ n. n + fit_len unit left cs) (length-encode c)

pub fit_len-none : (unit : PosUnit) (c : ℕ) (cs : List ℕ) (most : ℕ) → most < units_of_character unit c → fit_len unit most (c ∷ cs) ≡ 0
fit_len-none unit c cs most wide = ap (λ n. length (encode_utf8_all (take n (c ∷ cs)))) (fitting_none unit c cs most wide)

-- and they are no more than all of them
pub fit_len-le : (unit : PosUnit) (most : ℕ) (cs : List ℕ) → fit_len unit most cs ≤ length (encode_utf8_all cs)
fit_len-le unit most cs =
    let n : ℕ = fitting unit cs most in
    let parts = ap (λ l. length (encode_utf8_all l)) (take-append-drop n cs) in
    omega (arith, parts, ap length (encodes-append (take n cs) (drop n cs)), length-append (encode_utf8_all (take n cs)) (encode_utf8_all (drop n cs)))

-- a character takes no more units than bytes
units_of_character-le : (unit : PosUnit) (c : ℕ) → units_of_character unit c ≤ len_utf8 c
units_of_character-le Utf16 c = grind (arith, nat_tests)

pub units_of-le : (unit : PosUnit) (cs : List ℕ) → units_of unit cs ≤ length (encode_utf8_all cs)
units_of-le unit [] = omega arith
units_of-le unit (c ∷ cs) =
    omega (arith, units_of-cons unit c cs, units_of-le unit cs, units_of_character-le unit c, length-append (encode_utf8 c) (encode_utf8_all cs), length-encode c)

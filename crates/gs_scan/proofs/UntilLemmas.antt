-- The bytes up to the next one of a kind.
use Rattle.std.proofs.Common.{◌≡◌, ℕ, ◌<◌, ◌≤◌, Bool, true, not, ◌==◌, List, length, take, get_or, sym, ap, ◌∙◌, ⊎_elim, arith, length-take-le, get_or-take}
use Rattle.std.specs.Prelude.{◌≢◌, All}
use Rattle.std.specs.List.{prefix_len}
use Rattle.std.proofs.lemmas.Bool.{false≢true, cases_lt, eqb-true, not-false}
use Rattle.std.proofs.lemmas.Bool.Decides.{nat_tests}
use Rattle.std.proofs.lemmas.List.Elements.{All-get_or, All-from_get_or}
use Rattle.std.proofs.lemmas.List.Sums.{prefix_len-le-length, prefix_len_passes, prefix_len_stops}

-- a byte that is not b
abbrev pub until : ℕ → ℕ → Bool
until b c = not (c == b)

-- where the bytes stop short of the end, b stands
pub until_stops : (b : ℕ) (xs : List ℕ) → prefix_len (until b) xs < length xs → get_or xs (prefix_len (until b) xs) 0 ≡ b
until_stops b xs less = eqb-true _ b (not-false _ (prefix_len_stops (until b) xs 0 less))

pub until_le : (b : ℕ) (xs : List ℕ) (m : ℕ) → m ≤ length xs → All (λ c. c ≢ b) (take m xs) → m ≤ prefix_len (until b) xs
until_le b xs m within all =
    ⊎_elim
    (λ less. absurd (
    let is_b = until_stops b xs (omega arith) in
    let here : get_or (take m xs) (prefix_len (until b) xs) 0 ≡ get_or xs (prefix_len (until b) xs) 0 = get_or-take m xs (prefix_len (until b) xs) 0 less in
    All-get_or (λ c. c ≢ b) (take m xs) (prefix_len (until b) xs) 0 (let long = length-take-le m xs within in omega (arith, long)) all (here ∙ is_b)))
    (λ le. le)
    (cases_lt (prefix_len (until b) xs) m)

eq_self : (b : ℕ) → (b == b) ≡ true
eq_self b = grind (arith, nat_tests)

pub until_passes : (b : ℕ) (xs : List ℕ) (i : ℕ) → i < prefix_len (until b) xs → get_or xs i 0 ≢ b
until_passes b xs i before e =
    let pass = prefix_len_passes (until b) xs i 0 before in
    false≢true (sym (ap (λ c. not (c == b)) e ∙ ap not (eq_self b)) ∙ pass)

pub until_all : (b : ℕ) (xs : List ℕ) → All (λ c. c ≢ b) (take (prefix_len (until b) xs) xs)
until_all b xs = All-from_get_or (λ c. c ≢ b) (take (prefix_len (until b) xs) xs) 0
    (λ i less. let long = length-take-le (prefix_len (until b) xs) xs (prefix_len-le-length (until b) xs) in
    let before : i < prefix_len (until b) xs = omega arith in
    λ e. until_passes b xs i before (sym (get_or-take (prefix_len (until b) xs) xs i 0 before) ∙ e))

-- Filters and counts of a list of numbers.
use Rattle.std.proofs.Common.{◌≡◌, ℕ, zero, suc, ◌<◌, ◌≤◌, Bool, true, false, cond, List, [], ◌∷◌, length, get_or, refl, sym, subst, arith, ⊎_elim}
use Rattle.std.specs.Prelude.{filter, count_by}
use Rattle.std.specs.List.Sorted.{IsPartitionedBy, IsPartitionPoint}
use Rattle.std.proofs.lemmas.Bool.{cond-true, cond-false, cases_Bool, both_ways, false_from_ne_true}
use Rattle.std.proofs.lemmas.List.Sums.{sum_by-cons}
use Rattle.gs_text.proofs.Starts.{count_by-partition}

-- a filter keeps what passes
abbrev Has : List ℕ → ℕ → Type 0
Has l v = (j : ℕ) × (j < length l) × (get_or l j 0 ≡ v)

has-cons : (x : ℕ) (l : List ℕ) (v : ℕ) → Has l v → Has (x ∷ l) v
has-cons x l v h = (suc h.0, let within = h.1 in omega arith, h.2)

pub filter-keeps : (p : ℕ → Bool) (xs : List ℕ) (k : ℕ) → k < length xs → p (get_or xs k 0) ≡ true → (j : ℕ) × (j < length (filter p xs)) × (get_or (filter p xs) j 0 ≡ get_or xs k 0)
filter-keeps p [] k within passes = absurd (omega arith)
filter-keeps p (x ∷ xs) zero within passes =
    subst (λ l. Has l x) (sym (cond-true (p x) (x ∷ filter p xs) (filter p xs) passes)) (0, omega arith, refl)
filter-keeps p (x ∷ xs) (suc k) within passes =
    let rest = filter-keeps p xs k (omega arith) passes in
    ⊎_elim
    (λ first. subst (λ l. Has l (get_or xs k 0)) (sym (cond-true (p x) (x ∷ filter p xs) (filter p xs) first)) (has-cons x (filter p xs) (get_or xs k 0) rest))
    (λ first. subst (λ l. Has l (get_or xs k 0)) (sym (cond-false (p x) (x ∷ filter p xs) (filter p xs) first)) rest)
    (cases_Bool (p x))

-- where the passing stand in front, their number splits the list
first_passes : (p : ℕ → Bool) (x : ℕ) (xs : List ℕ) (n : ℕ) → p x ≡ true → IsPartitionPoint (λ y. p y ≡ true) (λ y. p y ≡ false) xs n → IsPartitionPoint (λ y. p y ≡ true) (λ y. p y ≡ false) (x ∷ xs) (suc n)
first_passes p x xs n passes point = (below, above)
  where
    below : (k d : ℕ) → 0 ≤ k → k < suc n → p (get_or (x ∷ xs) k d) ≡ true
    below zero d low high = passes
    below (suc k) d low high = point.0 k d (omega arith) (omega arith)

    above : (k d : ℕ) → suc n ≤ k → k < length (x ∷ xs) → p (get_or (x ∷ xs) k d) ≡ false
    above zero d low high = absurd (omega arith)
    above (suc k) d low high = point.1 k d (omega arith) (omega arith)

pub partition-count : (p : ℕ → Bool) (xs : List ℕ) → IsPartitionedBy p xs → IsPartitionPoint (λ y. p y ≡ true) (λ y. p y ≡ false) xs (count_by p xs)
partition-count p [] parted = ((λ k d low high. absurd (omega arith)), (λ k d low high. absurd (omega arith)))
partition-count p (x ∷ xs) parted =
    ⊎_elim
    (λ passes.
    let rest = partition-count p xs (λ i j d upto within. parted (suc i) (suc j) d (omega arith) (omega arith)) in
    let one : ℕ = 1 in
    let none : ℕ = 0 in
    let count : suc (count_by p xs) ≡ count_by p (x ∷ xs) = omega (arith, sum_by-cons (λ y. cond (p y) 1 0) x xs, cond-true (p x) one none passes) in
    subst (λ n. IsPartitionPoint (λ y. p y ≡ true) (λ y. p y ≡ false) (x ∷ xs) n) count (first_passes p x xs (count_by p xs) passes rest))
    (λ fails.
    let all : IsPartitionPoint (λ y. p y ≡ true) (λ y. p y ≡ false) (x ∷ xs) 0 =
    ((λ k d low high. absurd (omega arith)), (λ k d low high. false_from_ne_true _ (λ passes. both_ways (p x) fails (parted 0 k d (omega arith) high passes)))) in
    subst (λ n. IsPartitionPoint (λ y. p y ≡ true) (λ y. p y ≡ false) (x ∷ xs) n) (sym (count_by-partition p (x ∷ xs) 0 (omega arith) all)) all)
    (cases_Bool (p x))

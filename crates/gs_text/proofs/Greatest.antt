-- The greatest number up to a bound that passes a test.
use Rattle.std.proofs.Common.{◌≡◌, ℕ, zero, suc, ◌≤◌, Bool, true, sym, ◌∙◌, ap, arith, ⊎_elim}
use Rattle.std.proofs.lemmas.Bool.{cond-true, cond-false, cases_Bool, cases_eq, both_ways}
use Rattle.gs_text.specs.Positions.{greatest}

pub greatest-le : (test : ℕ → Bool) (n : ℕ) → greatest test n ≤ n
greatest-le test zero = omega arith
greatest-le test (suc n) =
    ⊎_elim
    (λ yes. omega (arith, cond-true (test (suc n)) (suc n) (greatest test n) yes))
    (λ no. omega (arith, cond-false (test (suc n)) (suc n) (greatest test n) no, greatest-le test n))
    (cases_Bool (test (suc n)))

-- where 0 passes, so does the greatest
pub greatest-passes : (test : ℕ → Bool) (n : ℕ) → test 0 ≡ true → test (greatest test n) ≡ true
greatest-passes test zero first = first
greatest-passes test (suc n) first =
    ⊎_elim
    (λ yes. ap test (cond-true (test (suc n)) (suc n) (greatest test n) yes) ∙ yes)
    (λ no. ap test (cond-false (test (suc n)) (suc n) (greatest test n) no) ∙ greatest-passes test n first)
    (cases_Bool (test (suc n)))

-- what passes is no greater
pub greatest-most : (test : ℕ → Bool) (n k : ℕ) → k ≤ n → test k ≡ true → k ≤ greatest test n
greatest-most test zero k within passes = within
greatest-most test (suc n) k within passes =
    ⊎_elim
    (λ yes. omega (arith, cond-true (test (suc n)) (suc n) (greatest test n) yes))
    (λ no. ⊎_elim
    (λ same. absurd (both_ways (test (suc n)) no (ap test (sym same) ∙ passes)))
    (λ other. omega (arith, cond-false (test (suc n)) (suc n) (greatest test n) no, greatest-most test n k (omega (arith, other)) passes))
    (cases_eq k (suc n)))
    (cases_Bool (test (suc n)))

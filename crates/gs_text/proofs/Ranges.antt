-- Filters of the numbers below a bound.
use Rattle.std.proofs.Common.{◌≡◌, ℕ, zero, suc, ◌+◌, Bool, true, false, cond, [], ◌∷◌, ◌++◌, ◌∙◌, ap, arith}
use Rattle.std.specs.Prelude.{filter}
use Rattle.std.specs.List.{range_with_len}
use Rattle.std.proofs.lemmas.Bool.{cond-true, cond-false}
use Rattle.std.proofs.lemmas.List.{append-nil}
use Rattle.std.proofs.lemmas.List.Elements.{filter-append}

range_with_len-more : (a n : ℕ) → range_with_len a (suc n) ≡ range_with_len a n ++ (a + n) ∷ []
range_with_len-more a zero = ap (λ x. x ∷ []) (omega arith)
range_with_len-more a (suc n) =
    ap (λ l. a ∷ l) (range_with_len-more (a + 1) n ∙ ap (λ x. range_with_len (a + 1) n ++ x ∷ []) (omega arith))

filter-range_more : (p : ℕ → Bool) (n : ℕ) → filter p (range_with_len 0 (n + 1)) ≡ filter p (range_with_len 0 n) ++ cond (p n) (n ∷ []) []
filter-range_more p n =
    let one_more : n + 1 ≡ suc n = omega arith in
    let from_zero : 0 + n ≡ n = omega arith in
    let next = ap (range_with_len 0) one_more ∙ range_with_len-more 0 n ∙ ap (λ x. range_with_len 0 n ++ x ∷ []) from_zero in
    ap (filter p) next ∙ filter-append p (range_with_len 0 n) (n ∷ [])

-- one number more, which passes, or doesn't
pub range_more_kept : (p : ℕ → Bool) (n : ℕ) → p n ≡ true → filter p (range_with_len 0 (n + 1)) ≡ filter p (range_with_len 0 n) ++ n ∷ []
range_more_kept p n passes = filter-range_more p n ∙ ap (λ l. filter p (range_with_len 0 n) ++ l) (cond-true (p n) (n ∷ []) [] passes)

pub range_more_left : (p : ℕ → Bool) (n : ℕ) → p n ≡ false → filter p (range_with_len 0 (n + 1)) ≡ filter p (range_with_len 0 n)
range_more_left p n fails =
    filter-range_more p n ∙ ap (λ l. filter p (range_with_len 0 n) ++ l) (cond-false (p n) (n ∷ []) [] fails) ∙ append-nil (filter p (range_with_len 0 n))

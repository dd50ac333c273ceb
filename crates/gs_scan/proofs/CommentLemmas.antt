-- Where a comment ends.
use Rattle.std.proofs.Common.{◌≡◌, ℕ, suc, ◌+◌, ◌-◌, ◌<◌, Bool, true, false, ◌&&◌, ◌||◌, ◌==◌, cond, List, [], ◌∷◌, ◌++◌, length, take, drop, get_or, sym, refl, ap, ◌∙◌, ⊎_elim, arith, Some, None, add-zero, add-one, get_or-drop, drop-cons}
use Rattle.std.proofs.Math.Bool.{or-true}
use Rattle.std.proofs.Math.Seq.{take-append_seam, take-append-add}
use Rattle.std.proofs.lemmas.Bool.{false≢true, and_parts, cases_Bool, cases_lt, eqb-true}
use Rattle.gs_syntax.specs.Comments.{has_close}
use Rattle.gs_scan.specs.Reading.{close_from}

-- the list from i on
drop_at : (xs : List ℕ) (i : ℕ) → i < length xs → drop i xs ≡ get_or xs i 0 ∷ drop (i + 1) xs
drop_at xs i within = drop-cons xs i 0 within ∙ ap (λ n. get_or xs i 0 ∷ drop n xs) (sym (add-one i))

abbrev closes : ℕ → List ℕ → Bool
closes c cs = c == 42 && get_or cs 0 0 == 47

second : (xs : List ℕ) (i : ℕ) → closes (get_or xs i 0) (drop (i + 1) xs) ≡ (get_or xs i 0 == 42 && get_or xs (i + 1) 0 == 47)
second xs i = ap (λ n. get_or xs i 0 == 42 && n == 47) (get_or-drop (i + 1) xs 0 0 ∙ ap (λ k. get_or xs k 0) (add-zero (i + 1)))

pub close_from-here : (xs : List ℕ) (i : ℕ) → i < length xs → (get_or xs i 0 == 42 && get_or xs (i + 1) 0 == 47) ≡ true → close_from i (drop i xs) ≡ Some (i + 2)
close_from-here xs i within h = ap (close_from i) (drop_at xs i within) ∙ ap (λ b. cond b (Some (i + 2)) (close_from (i + 1) (drop (i + 1) xs))) (second xs i ∙ h)

pub close_from-later : (xs : List ℕ) (i : ℕ) → i < length xs → (get_or xs i 0 == 42 && get_or xs (i + 1) 0 == 47) ≡ false → close_from i (drop i xs) ≡ close_from (i + 1) (drop (i + 1) xs)
close_from-later xs i within h = ap (close_from i) (drop_at xs i within) ∙ ap (λ b. cond b (Some (i + 2)) (close_from (i + 1) (drop (i + 1) xs))) (second xs i ∙ h)

-- the text behind `/*` up to and with the next `*/`
pub record Closed (t : List ℕ) (n : ℕ) : Type 0 where
  pub inside : List ℕ
  pub rest : List ℕ
  pub whole : t ≡ inside ++ (42 ∷ 47 ∷ rest)
  pub size : n ≡ length inside + 2
  pub first : has_close (inside ++ 42 ∷ []) ≡ false

-- a star behind it or more, what is inside begins alike
first_inside : (x rest : List ℕ) → get_or (x ++ 42 ∷ []) 0 0 ≡ get_or (x ++ (42 ∷ 47 ∷ rest)) 0 0
first_inside [] rest = refl
first_inside (c ∷ x) rest = refl

slash_first : (cs : List ℕ) → get_or cs 0 0 ≡ 47 → (rest : List ℕ) × (cs ≡ 47 ∷ rest)
slash_first [] h = absurd (omega arith)
slash_first (c ∷ cs) h = (cs, ap (λ x. x ∷ cs) h)

closed_here : (c : ℕ) (cs : List ℕ) → closes c cs ≡ true → Closed (c ∷ cs) 2
closed_here c cs h =
    let parts = and_parts (c == 42) (get_or cs 0 0 == 47) h in
    let p = slash_first cs (eqb-true (get_or cs 0 0) 47 parts.1) in
    record { inside = []; rest = p.0; whole = (λ i. (eqb-true c 42 parts.0) i ∷ p.1 i); size = refl; first = refl }

closed_later : (c : ℕ) (cs : List ℕ) (k : ℕ) → closes c cs ≡ false → Closed cs k → Closed (c ∷ cs) (k + 1)
closed_later c cs k h p = record {
  inside = c ∷ p.inside;
  rest = p.rest;
  whole = ap (λ l. c ∷ l) p.whole;
  size = let e = p.size in omega arith;
  first = ap (λ n. (c == 42 && n == 47) || has_close (p.inside ++ 42 ∷ [])) (first_inside p.inside p.rest ∙ ap (λ l. get_or l 0 0) (sym p.whole))
      ∙ ap (λ b. b || has_close (p.inside ++ 42 ∷ [])) h ∙ p.first;
}

pub closed : (at : ℕ) (t : List ℕ) (s : ℕ) → close_from at t ≡ Some s → (k : ℕ) × (s ≡ at + k) × Closed t k
closed at [] s h = cc
closed at (c ∷ cs) s h =
    ⊎_elim
    (λ here. let e : Some (at + 2) ≡ Some s = sym (ap (λ b. cond b (Some (at + 2)) (close_from (at + 1) cs)) here) ∙ h in
    let is_s : s ≡ at + 2 = cc in (2, is_s, closed_here c cs here))
    (λ later. let p = closed (at + 1) cs s (sym (ap (λ b. cond b (Some (at + 2)) (close_from (at + 1) cs)) later) ∙ h) in
    (p.0 + 1, (let e = p.1 in omega arith), closed_later c cs p.0 later p.2))
    (cases_Bool (closes c cs))

pub unclosed : (at : ℕ) (t : List ℕ) → close_from at t ≡ None → has_close t ≡ false
unclosed at [] h = refl
unclosed at (c ∷ cs) h =
    ⊎_elim
    (λ here. let e : Some (at + 2) ≡ None = sym (ap (λ b. cond b (Some (at + 2)) (close_from (at + 1) cs)) here) ∙ h in cc)
    (λ later. ap (λ b. b || has_close cs) later ∙ unclosed (at + 1) cs (sym (ap (λ b. cond b (Some (at + 2)) (close_from (at + 1) cs)) later) ∙ h))
    (cases_Bool (closes c cs))

-- what has `*/` in it has it
pub has_close-inside : (x rest : List ℕ) → has_close (x ++ (42 ∷ 47 ∷ rest)) ≡ true
has_close-inside [] rest = refl
has_close-inside (c ∷ x) rest = ap (λ b. closes c (x ++ (42 ∷ 47 ∷ rest)) || b) (has_close-inside x rest) ∙ or-true (closes c (x ++ (42 ∷ 47 ∷ rest)))

no_close : (c : ℕ) (y s : List ℕ) → has_close (c ∷ (y ++ 42 ∷ [])) ≡ false → 42 ≡ c → 47 ≡ get_or (y ++ (42 ∷ 47 ∷ s)) 0 0 → ⊥
no_close c y s h is_star is_slash =
    let test : closes c (y ++ 42 ∷ []) ≡ true = (λ i. (sym is_star i) == 42 && ((first_inside y s ∙ sym is_slash) i) == 47) in
    false≢true (sym h ∙ ap (λ b. b || has_close (y ++ 42 ∷ [])) test)

later_false : (c : ℕ) (l : List ℕ) → has_close (c ∷ l) ≡ false → has_close l ≡ false
later_false c l h = ⊎_elim (λ t. absurd (false≢true (sym h ∙ ap (λ b. closes c l || b) t ∙ or-true (closes c l)))) (λ f. f) (cases_Bool (has_close l))

two_taken : (i : ℕ) (rest : List ℕ) → take (2 + i) (42 ∷ 47 ∷ rest) ≡ 42 ∷ 47 ∷ take i rest
two_taken i rest = let e : 2 + i ≡ suc (suc i) = omega arith in ap (λ k. take k (42 ∷ 47 ∷ rest)) e

-- the next `*/` is one place
pub same_inside : (x y r s : List ℕ) → has_close (x ++ 42 ∷ []) ≡ false → has_close (y ++ 42 ∷ []) ≡ false → x ++ (42 ∷ 47 ∷ r) ≡ y ++ (42 ∷ 47 ∷ s) → x ≡ y
same_inside [] [] r s g h e = refl
same_inside [] (c ∷ y) r s g h e = absurd (no_close c y s h (ap (λ l. get_or l 0 0) e) (ap (λ l. get_or l 1 0) e))
same_inside (c ∷ x) [] r s g h e = absurd (no_close c x r g (sym (ap (λ l. get_or l 0 0) e)) (sym (ap (λ l. get_or l 1 0) e)))
same_inside (c ∷ x) (d ∷ y) r s g h e =
    let head : c ≡ d = ap (λ l. get_or l 0 0) e in
    let tail = same_inside x y r s (later_false c (x ++ 42 ∷ []) g) (later_false d (y ++ 42 ∷ []) h) (ap (drop 1) e) in
    λ i. head i ∷ tail i

-- what goes on without `*/` ends before the next `*/`
pub open_shorter : (x rest y more : List ℕ) → has_close y ≡ false → y ++ more ≡ x ++ (42 ∷ 47 ∷ rest) → length y < length x + 2
open_shorter x rest y more h e =
    ⊎_elim (λ less. less)
    (λ long. absurd (
    let i : ℕ = length y - (length x + 2) in
    let count : length x + (2 + i) ≡ length y = omega arith in
    let front : y ≡ x ++ (42 ∷ 47 ∷ take i rest) =
    sym (take-append_seam y more) ∙ ap (take (length y)) e ∙ ap (λ k. take k (x ++ (42 ∷ 47 ∷ rest))) (sym count)
    ∙ take-append-add x (42 ∷ 47 ∷ rest) (2 + i) ∙ ap (λ l. x ++ l) (two_taken i rest) in
    false≢true (sym h ∙ ap has_close front ∙ has_close-inside x (take i rest))))
    (cases_lt (length y) (length x + 2))

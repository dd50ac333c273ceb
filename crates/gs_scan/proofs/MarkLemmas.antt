-- The longest operator at the front.
use Rattle.std.proofs.Common.{◌≡◌, ℕ, ◌<◌, ◌≤◌, Bool, true, false, cond, ◌==◌, List, [], ◌∷◌, ◌++◌, length, take, drop, get_or, sym, refl, ap, ◌∙◌, subst, inl, inr, arith, IsUtf8, Some, None, Option, eqb-true, take-append-drop, length-take-le, nat_lt, lit<}
use Rattle.std.specs.Prelude.{◌⊎◌, encode_utf8}
use Rattle.std.specs.List.{list_all}
use Rattle.std.specs.Str.{IsCharBoundary}
use Rattle.std.proofs.lemmas.Bool.{and_parts, ltb-true}
use Rattle.std.proofs.lemmas.Str.{encode_ascii, IsUtf8-past_char, IsCharBoundary-at_seam}
use Rattle.gs_syntax.specs.declared.token.Operator.{Operator}
use Rattle.gs_syntax.specs.declared.token.Operator.TheVariants as operator
use Rattle.gs_syntax.specs.Kinds.{operator_text}
use Rattle.gs_scan.specs.Marks.{operator_at}

-- ---- ASCII at the front

abbrev pub is_ascii_bytes : List ℕ → Bool
is_ascii_bytes = list_all (λ b. nat_lt b 128)

ascii_front : (xs t : List ℕ) → is_ascii_bytes xs ≡ true → IsUtf8 (xs ++ t) → IsUtf8 t
ascii_front [] t ascii utf8 = utf8
ascii_front (x ∷ xs) t ascii utf8 =
    let parts = and_parts (nat_lt x 128) (is_ascii_bytes xs) ascii in
    let begins : x ∷ (xs ++ t) ≡ encode_utf8 x ++ (xs ++ t) = ap (λ l. l ++ (xs ++ t)) (sym (encode_ascii x (ltb-true x 128 parts.0))) in
    ascii_front xs t parts.1 (IsUtf8-past_char (x ∷ (xs ++ t)) (xs ++ t) x utf8 begins)

pub ascii_boundary : (text xs : List ℕ) (n : ℕ) → IsUtf8 text → n ≤ length text → take n text ≡ xs → is_ascii_bytes xs ≡ true → IsCharBoundary text n
ascii_boundary text xs n utf8 within front ascii =
    let whole : text ≡ xs ++ drop n text = sym (take-append-drop n text) ∙ ap (λ l. l ++ drop n text) front in
    let long : length xs ≡ n = ap length (sym front) ∙ length-take-le n text within in
    subst (IsCharBoundary text) long (IsCharBoundary-at_seam text xs (drop n text) whole (ascii_front xs (drop n text) ascii (subst IsUtf8 whole utf8)))

-- ---- what is read is there

take_one : (text : List ℕ) (x : ℕ) → 0 < x → get_or text 0 0 ≡ x → take 1 text ≡ x ∷ []
take_one [] x some e = absurd (omega arith)
take_one (a ∷ text) x some e = ap (λ y. y ∷ []) e

take_two : (text : List ℕ) (x y : ℕ) → 0 < x → 0 < y → get_or text 0 0 ≡ x → get_or text 1 0 ≡ y → take 2 text ≡ x ∷ y ∷ []
take_two [] x y some more e f = absurd (omega arith)
take_two (a ∷ text) x y some more e f = λ i. e i ∷ take_one text y more f i

take_three : (text : List ℕ) (x y z : ℕ) → 0 < x → 0 < y → 0 < z → get_or text 0 0 ≡ x → get_or text 1 0 ≡ y → get_or text 2 0 ≡ z → take 3 text ≡ x ∷ y ∷ z ∷ []
take_three [] x y z some more last e f g = absurd (omega arith)
take_three (a ∷ text) x y z some more last e f g = λ i. e i ∷ take_two text y z more last f g i

abbrev pub Found : List ℕ → Option (Operator × ℕ) → Type 0
Found text None = Unit {0}
Found text (Some p) = (0 < p.1) × (p.1 ≡ length (operator_text p.0)) × (take p.1 text ≡ operator_text p.0)

cond_found : (text : List ℕ) (t : Bool) (x y : Option (Operator × ℕ)) → (t ≡ true → Found text x) → (t ≡ false → Found text y) → Found text (cond t x y)
cond_found text true x y p q = p refl
cond_found text false x y p q = q refl

found_leaf : (text : List ℕ) (o : Operator) (n : ℕ) → 0 < n → n ≡ length (operator_text o) → take n text ≡ operator_text o → Found text (Some (o, n))
found_leaf text o n some long e = (some, long, e)

pub found : (text : List ℕ) (first second third : ℕ) → get_or text 0 0 ≡ first → get_or text 1 0 ≡ second → get_or text 2 0 ≡ third → Found text (operator_at first second third)
found text first second third is_first is_second is_third =
    cond_found text _ _ _ (λ e0. cond_found text _ _ _ (λ e1. found_leaf text operator.Increment 2 (lit< tt) refl (take_two text 43 43 (lit< tt) (lit< tt) (is_first ∙ eqb-true first 43 e0) (is_second ∙ eqb-true second 43 e1))) (λ _. cond_found text _ _ _ (λ e1. found_leaf text operator.PlusAssign 2 (lit< tt) refl (take_two text 43 61 (lit< tt) (lit< tt) (is_first ∙ eqb-true first 43 e0) (is_second ∙ eqb-true second 61 e1))) (λ _. found_leaf text operator.Plus 1 (lit< tt) refl (take_one text 43 (lit< tt) (is_first ∙ eqb-true first 43 e0))))) (λ _.
    cond_found text _ _ _ (λ e0. cond_found text _ _ _ (λ e1. found_leaf text operator.Decrement 2 (lit< tt) refl (take_two text 45 45 (lit< tt) (lit< tt) (is_first ∙ eqb-true first 45 e0) (is_second ∙ eqb-true second 45 e1))) (λ _. cond_found text _ _ _ (λ e1. found_leaf text operator.MinusAssign 2 (lit< tt) refl (take_two text 45 61 (lit< tt) (lit< tt) (is_first ∙ eqb-true first 45 e0) (is_second ∙ eqb-true second 61 e1))) (λ _. found_leaf text operator.Minus 1 (lit< tt) refl (take_one text 45 (lit< tt) (is_first ∙ eqb-true first 45 e0))))) (λ _.
    cond_found text _ _ _ (λ e0. cond_found text _ _ _ (λ e1. found_leaf text operator.StarAssign 2 (lit< tt) refl (take_two text 42 61 (lit< tt) (lit< tt) (is_first ∙ eqb-true first 42 e0) (is_second ∙ eqb-true second 61 e1))) (λ _. found_leaf text operator.Star 1 (lit< tt) refl (take_one text 42 (lit< tt) (is_first ∙ eqb-true first 42 e0)))) (λ _.
    cond_found text _ _ _ (λ e0. cond_found text _ _ _ (λ e1. found_leaf text operator.SlashAssign 2 (lit< tt) refl (take_two text 47 61 (lit< tt) (lit< tt) (is_first ∙ eqb-true first 47 e0) (is_second ∙ eqb-true second 61 e1))) (λ _. found_leaf text operator.Slash 1 (lit< tt) refl (take_one text 47 (lit< tt) (is_first ∙ eqb-true first 47 e0)))) (λ _.
    cond_found text _ _ _ (λ e0. cond_found text _ _ _ (λ e1. found_leaf text operator.PercentAssign 2 (lit< tt) refl (take_two text 37 61 (lit< tt) (lit< tt) (is_first ∙ eqb-true first 37 e0) (is_second ∙ eqb-true second 61 e1))) (λ _. found_leaf text operator.Percent 1 (lit< tt) refl (take_one text 37 (lit< tt) (is_first ∙ eqb-true first 37 e0)))) (λ _.
    cond_found text _ _ _ (λ e0. cond_found text _ _ _ (λ e1. (cond_found text _ _ _ (λ e2. found_leaf text operator.AndNotAssign 3 (lit< tt) refl (take_three text 38 94 61 (lit< tt) (lit< tt) (lit< tt) (is_first ∙ eqb-true first 38 e0) (is_second ∙ eqb-true second 94 e1) (is_third ∙ eqb-true third 61 e2))) (λ _. found_leaf text operator.AndNot 2 (lit< tt) refl (take_two text 38 94 (lit< tt) (lit< tt) (is_first ∙ eqb-true first 38 e0) (is_second ∙ eqb-true second 94 e1))))) (λ _. cond_found text _ _ _ (λ e1. found_leaf text operator.AndAssign 2 (lit< tt) refl (take_two text 38 61 (lit< tt) (lit< tt) (is_first ∙ eqb-true first 38 e0) (is_second ∙ eqb-true second 61 e1))) (λ _. cond_found text _ _ _ (λ e1. found_leaf text operator.LogicalAnd 2 (lit< tt) refl (take_two text 38 38 (lit< tt) (lit< tt) (is_first ∙ eqb-true first 38 e0) (is_second ∙ eqb-true second 38 e1))) (λ _. found_leaf text operator.And 1 (lit< tt) refl (take_one text 38 (lit< tt) (is_first ∙ eqb-true first 38 e0)))))) (λ _.
    cond_found text _ _ _ (λ e0. cond_found text _ _ _ (λ e1. found_leaf text operator.OrAssign 2 (lit< tt) refl (take_two text 124 61 (lit< tt) (lit< tt) (is_first ∙ eqb-true first 124 e0) (is_second ∙ eqb-true second 61 e1))) (λ _. cond_found text _ _ _ (λ e1. found_leaf text operator.LogicalOr 2 (lit< tt) refl (take_two text 124 124 (lit< tt) (lit< tt) (is_first ∙ eqb-true first 124 e0) (is_second ∙ eqb-true second 124 e1))) (λ _. found_leaf text operator.Or 1 (lit< tt) refl (take_one text 124 (lit< tt) (is_first ∙ eqb-true first 124 e0))))) (λ _.
    cond_found text _ _ _ (λ e0. cond_found text _ _ _ (λ e1. found_leaf text operator.CaretAssign 2 (lit< tt) refl (take_two text 94 61 (lit< tt) (lit< tt) (is_first ∙ eqb-true first 94 e0) (is_second ∙ eqb-true second 61 e1))) (λ _. found_leaf text operator.Caret 1 (lit< tt) refl (take_one text 94 (lit< tt) (is_first ∙ eqb-true first 94 e0)))) (λ _.
    cond_found text _ _ _ (λ e0. cond_found text _ _ _ (λ e1. (cond_found text _ _ _ (λ e2. found_leaf text operator.ShiftLeftAssign 3 (lit< tt) refl (take_three text 60 60 61 (lit< tt) (lit< tt) (lit< tt) (is_first ∙ eqb-true first 60 e0) (is_second ∙ eqb-true second 60 e1) (is_third ∙ eqb-true third 61 e2))) (λ _. found_leaf text operator.ShiftLeft 2 (lit< tt) refl (take_two text 60 60 (lit< tt) (lit< tt) (is_first ∙ eqb-true first 60 e0) (is_second ∙ eqb-true second 60 e1))))) (λ _. cond_found text _ _ _ (λ e1. found_leaf text operator.LessEqual 2 (lit< tt) refl (take_two text 60 61 (lit< tt) (lit< tt) (is_first ∙ eqb-true first 60 e0) (is_second ∙ eqb-true second 61 e1))) (λ _. cond_found text _ _ _ (λ e1. found_leaf text operator.Arrow 2 (lit< tt) refl (take_two text 60 45 (lit< tt) (lit< tt) (is_first ∙ eqb-true first 60 e0) (is_second ∙ eqb-true second 45 e1))) (λ _. found_leaf text operator.Less 1 (lit< tt) refl (take_one text 60 (lit< tt) (is_first ∙ eqb-true first 60 e0)))))) (λ _.
    cond_found text _ _ _ (λ e0. cond_found text _ _ _ (λ e1. (cond_found text _ _ _ (λ e2. found_leaf text operator.ShiftRightAssign 3 (lit< tt) refl (take_three text 62 62 61 (lit< tt) (lit< tt) (lit< tt) (is_first ∙ eqb-true first 62 e0) (is_second ∙ eqb-true second 62 e1) (is_third ∙ eqb-true third 61 e2))) (λ _. found_leaf text operator.ShiftRight 2 (lit< tt) refl (take_two text 62 62 (lit< tt) (lit< tt) (is_first ∙ eqb-true first 62 e0) (is_second ∙ eqb-true second 62 e1))))) (λ _. cond_found text _ _ _ (λ e1. found_leaf text operator.GreaterEqual 2 (lit< tt) refl (take_two text 62 61 (lit< tt) (lit< tt) (is_first ∙ eqb-true first 62 e0) (is_second ∙ eqb-true second 61 e1))) (λ _. found_leaf text operator.Greater 1 (lit< tt) refl (take_one text 62 (lit< tt) (is_first ∙ eqb-true first 62 e0))))) (λ _.
    cond_found text _ _ _ (λ e0. cond_found text _ _ _ (λ e1. found_leaf text operator.Equal 2 (lit< tt) refl (take_two text 61 61 (lit< tt) (lit< tt) (is_first ∙ eqb-true first 61 e0) (is_second ∙ eqb-true second 61 e1))) (λ _. found_leaf text operator.Assign 1 (lit< tt) refl (take_one text 61 (lit< tt) (is_first ∙ eqb-true first 61 e0)))) (λ _.
    cond_found text _ _ _ (λ e0. cond_found text _ _ _ (λ e1. found_leaf text operator.NotEqual 2 (lit< tt) refl (take_two text 33 61 (lit< tt) (lit< tt) (is_first ∙ eqb-true first 33 e0) (is_second ∙ eqb-true second 61 e1))) (λ _. found_leaf text operator.Not 1 (lit< tt) refl (take_one text 33 (lit< tt) (is_first ∙ eqb-true first 33 e0)))) (λ _.
    cond_found text _ _ _ (λ e0. cond_found text _ _ _ (λ e1. found_leaf text operator.Define 2 (lit< tt) refl (take_two text 58 61 (lit< tt) (lit< tt) (is_first ∙ eqb-true first 58 e0) (is_second ∙ eqb-true second 61 e1))) (λ _. found_leaf text operator.Colon 1 (lit< tt) refl (take_one text 58 (lit< tt) (is_first ∙ eqb-true first 58 e0)))) (λ _.
    cond_found text _ _ _ (λ e0. cond_found text _ _ _ (λ e1. (cond_found text _ _ _ (λ e2. found_leaf text operator.Ellipsis 3 (lit< tt) refl (take_three text 46 46 46 (lit< tt) (lit< tt) (lit< tt) (is_first ∙ eqb-true first 46 e0) (is_second ∙ eqb-true second 46 e1) (is_third ∙ eqb-true third 46 e2))) (λ _. found_leaf text operator.Dot 1 (lit< tt) refl (take_one text 46 (lit< tt) (is_first ∙ eqb-true first 46 e0))))) (λ _. found_leaf text operator.Dot 1 (lit< tt) refl (take_one text 46 (lit< tt) (is_first ∙ eqb-true first 46 e0)))) (λ _.
    cond_found text _ _ _ (λ e0. found_leaf text operator.LeftParen 1 (lit< tt) refl (take_one text 40 (lit< tt) (is_first ∙ eqb-true first 40 e0))) (λ _.
    cond_found text _ _ _ (λ e0. found_leaf text operator.RightParen 1 (lit< tt) refl (take_one text 41 (lit< tt) (is_first ∙ eqb-true first 41 e0))) (λ _.
    cond_found text _ _ _ (λ e0. found_leaf text operator.LeftBracket 1 (lit< tt) refl (take_one text 91 (lit< tt) (is_first ∙ eqb-true first 91 e0))) (λ _.
    cond_found text _ _ _ (λ e0. found_leaf text operator.RightBracket 1 (lit< tt) refl (take_one text 93 (lit< tt) (is_first ∙ eqb-true first 93 e0))) (λ _.
    cond_found text _ _ _ (λ e0. found_leaf text operator.LeftBrace 1 (lit< tt) refl (take_one text 123 (lit< tt) (is_first ∙ eqb-true first 123 e0))) (λ _.
    cond_found text _ _ _ (λ e0. found_leaf text operator.RightBrace 1 (lit< tt) refl (take_one text 125 (lit< tt) (is_first ∙ eqb-true first 125 e0))) (λ _.
    cond_found text _ _ _ (λ e0. found_leaf text operator.Comma 1 (lit< tt) refl (take_one text 44 (lit< tt) (is_first ∙ eqb-true first 44 e0))) (λ _.
    cond_found text _ _ _ (λ e0. found_leaf text operator.Semicolon 1 (lit< tt) refl (take_one text 59 (lit< tt) (is_first ∙ eqb-true first 59 e0))) (λ _.
    tt))))))))))))))))))))))

-- ---- and nothing longer

abbrev pub Better : Operator → Option (Operator × ℕ) → Type 0
Better o r = (p : Operator × ℕ) × (r ≡ Some p) × ((length (operator_text o) < p.1) ⊎ ((length (operator_text o) ≡ p.1) × (o ≡ p.0)))

cond_better : (o : Operator) (t : Bool) (x y : Option (Operator × ℕ)) → Better o x → Better o y → Better o (cond t x y)
cond_better o true x y p q = p
cond_better o false x y p q = q

longer_one : (o p : Operator) (n : ℕ) → nat_lt (length (operator_text o)) n ≡ true → Better o (Some (p, n))
longer_one o p n h = ((p, n), refl, inl (ltb-true (length (operator_text o)) n h))

same_size : (o : Operator) → Better o (Some (o, length (operator_text o)))
same_size o = ((o, length (operator_text o)), refl, inr (refl, refl))

-- what is read where the text begins so
abbrev pub read_at : List ℕ → Option (Operator × ℕ)
read_at text = operator_at (get_or text 0 0) (get_or text 1 0) (get_or text 2 0)

pub better : (o : Operator) (t : List ℕ) → Better o (read_at (operator_text o ++ t))
better operator.Plus t = cond_better operator.Plus (get_or t 0 0 == 43) _ _ (longer_one operator.Plus operator.Increment 2 refl) (cond_better operator.Plus (get_or t 0 0 == 61) _ _ (longer_one operator.Plus operator.PlusAssign 2 refl) ((same_size operator.Plus)))
better operator.Minus t = cond_better operator.Minus (get_or t 0 0 == 45) _ _ (longer_one operator.Minus operator.Decrement 2 refl) (cond_better operator.Minus (get_or t 0 0 == 61) _ _ (longer_one operator.Minus operator.MinusAssign 2 refl) ((same_size operator.Minus)))
better operator.Star t = cond_better operator.Star (get_or t 0 0 == 61) _ _ (longer_one operator.Star operator.StarAssign 2 refl) ((same_size operator.Star))
better operator.Slash t = cond_better operator.Slash (get_or t 0 0 == 61) _ _ (longer_one operator.Slash operator.SlashAssign 2 refl) ((same_size operator.Slash))
better operator.Percent t = cond_better operator.Percent (get_or t 0 0 == 61) _ _ (longer_one operator.Percent operator.PercentAssign 2 refl) ((same_size operator.Percent))
better operator.And t = cond_better operator.And (get_or t 0 0 == 94) _ _ (cond_better operator.And (get_or t 1 0 == 61) _ _ (longer_one operator.And operator.AndNotAssign 3 refl) ((longer_one operator.And operator.AndNot 2 refl))) (cond_better operator.And (get_or t 0 0 == 61) _ _ (longer_one operator.And operator.AndAssign 2 refl) (cond_better operator.And (get_or t 0 0 == 38) _ _ (longer_one operator.And operator.LogicalAnd 2 refl) ((same_size operator.And))))
better operator.Or t = cond_better operator.Or (get_or t 0 0 == 61) _ _ (longer_one operator.Or operator.OrAssign 2 refl) (cond_better operator.Or (get_or t 0 0 == 124) _ _ (longer_one operator.Or operator.LogicalOr 2 refl) ((same_size operator.Or)))
better operator.Caret t = cond_better operator.Caret (get_or t 0 0 == 61) _ _ (longer_one operator.Caret operator.CaretAssign 2 refl) ((same_size operator.Caret))
better operator.ShiftLeft t = cond_better operator.ShiftLeft (get_or t 0 0 == 61) _ _ (longer_one operator.ShiftLeft operator.ShiftLeftAssign 3 refl) ((same_size operator.ShiftLeft))
better operator.ShiftRight t = cond_better operator.ShiftRight (get_or t 0 0 == 61) _ _ (longer_one operator.ShiftRight operator.ShiftRightAssign 3 refl) ((same_size operator.ShiftRight))
better operator.AndNot t = cond_better operator.AndNot (get_or t 0 0 == 61) _ _ (longer_one operator.AndNot operator.AndNotAssign 3 refl) ((same_size operator.AndNot))
better operator.PlusAssign t = (same_size operator.PlusAssign)
better operator.MinusAssign t = (same_size operator.MinusAssign)
better operator.StarAssign t = (same_size operator.StarAssign)
better operator.SlashAssign t = (same_size operator.SlashAssign)
better operator.PercentAssign t = (same_size operator.PercentAssign)
better operator.AndAssign t = (same_size operator.AndAssign)
better operator.OrAssign t = (same_size operator.OrAssign)
better operator.CaretAssign t = (same_size operator.CaretAssign)
better operator.ShiftLeftAssign t = (same_size operator.ShiftLeftAssign)
better operator.ShiftRightAssign t = (same_size operator.ShiftRightAssign)
better operator.AndNotAssign t = (same_size operator.AndNotAssign)
better operator.LogicalAnd t = (same_size operator.LogicalAnd)
better operator.LogicalOr t = (same_size operator.LogicalOr)
better operator.Arrow t = (same_size operator.Arrow)
better operator.Increment t = (same_size operator.Increment)
better operator.Decrement t = (same_size operator.Decrement)
better operator.Equal t = (same_size operator.Equal)
better operator.Less t = cond_better operator.Less (get_or t 0 0 == 60) _ _ (cond_better operator.Less (get_or t 1 0 == 61) _ _ (longer_one operator.Less operator.ShiftLeftAssign 3 refl) ((longer_one operator.Less operator.ShiftLeft 2 refl))) (cond_better operator.Less (get_or t 0 0 == 61) _ _ (longer_one operator.Less operator.LessEqual 2 refl) (cond_better operator.Less (get_or t 0 0 == 45) _ _ (longer_one operator.Less operator.Arrow 2 refl) ((same_size operator.Less))))
better operator.Greater t = cond_better operator.Greater (get_or t 0 0 == 62) _ _ (cond_better operator.Greater (get_or t 1 0 == 61) _ _ (longer_one operator.Greater operator.ShiftRightAssign 3 refl) ((longer_one operator.Greater operator.ShiftRight 2 refl))) (cond_better operator.Greater (get_or t 0 0 == 61) _ _ (longer_one operator.Greater operator.GreaterEqual 2 refl) ((same_size operator.Greater)))
better operator.Assign t = cond_better operator.Assign (get_or t 0 0 == 61) _ _ (longer_one operator.Assign operator.Equal 2 refl) ((same_size operator.Assign))
better operator.Not t = cond_better operator.Not (get_or t 0 0 == 61) _ _ (longer_one operator.Not operator.NotEqual 2 refl) ((same_size operator.Not))
better operator.NotEqual t = (same_size operator.NotEqual)
better operator.LessEqual t = (same_size operator.LessEqual)
better operator.GreaterEqual t = (same_size operator.GreaterEqual)
better operator.Define t = (same_size operator.Define)
better operator.Ellipsis t = (same_size operator.Ellipsis)
better operator.LeftParen t = (same_size operator.LeftParen)
better operator.RightParen t = (same_size operator.RightParen)
better operator.LeftBracket t = (same_size operator.LeftBracket)
better operator.RightBracket t = (same_size operator.RightBracket)
better operator.LeftBrace t = (same_size operator.LeftBrace)
better operator.RightBrace t = (same_size operator.RightBrace)
better operator.Comma t = (same_size operator.Comma)
better operator.Semicolon t = (same_size operator.Semicolon)
better operator.Dot t = cond_better operator.Dot (get_or t 0 0 == 46) _ _ (cond_better operator.Dot (get_or t 1 0 == 46) _ _ (longer_one operator.Dot operator.Ellipsis 3 refl) ((same_size operator.Dot))) ((same_size operator.Dot))
better operator.Colon t = cond_better operator.Colon (get_or t 0 0 == 61) _ _ (longer_one operator.Colon operator.Define 2 refl) ((same_size operator.Colon))

pub operator_ascii : (o : Operator) → is_ascii_bytes (operator_text o) ≡ true
operator_ascii operator.Plus = refl
operator_ascii operator.Minus = refl
operator_ascii operator.Star = refl
operator_ascii operator.Slash = refl
operator_ascii operator.Percent = refl
operator_ascii operator.And = refl
operator_ascii operator.Or = refl
operator_ascii operator.Caret = refl
operator_ascii operator.ShiftLeft = refl
operator_ascii operator.ShiftRight = refl
operator_ascii operator.AndNot = refl
operator_ascii operator.PlusAssign = refl
operator_ascii operator.MinusAssign = refl
operator_ascii operator.StarAssign = refl
operator_ascii operator.SlashAssign = refl
operator_ascii operator.PercentAssign = refl
operator_ascii operator.AndAssign = refl
operator_ascii operator.OrAssign = refl
operator_ascii operator.CaretAssign = refl
operator_ascii operator.ShiftLeftAssign = refl
operator_ascii operator.ShiftRightAssign = refl
operator_ascii operator.AndNotAssign = refl
operator_ascii operator.LogicalAnd = refl
operator_ascii operator.LogicalOr = refl
operator_ascii operator.Arrow = refl
operator_ascii operator.Increment = refl
operator_ascii operator.Decrement = refl
operator_ascii operator.Equal = refl
operator_ascii operator.Less = refl
operator_ascii operator.Greater = refl
operator_ascii operator.Assign = refl
operator_ascii operator.Not = refl
operator_ascii operator.NotEqual = refl
operator_ascii operator.LessEqual = refl
operator_ascii operator.GreaterEqual = refl
operator_ascii operator.Define = refl
operator_ascii operator.Ellipsis = refl
operator_ascii operator.LeftParen = refl
operator_ascii operator.RightParen = refl
operator_ascii operator.LeftBracket = refl
operator_ascii operator.RightBracket = refl
operator_ascii operator.LeftBrace = refl
operator_ascii operator.RightBrace = refl
operator_ascii operator.Comma = refl
operator_ascii operator.Semicolon = refl
operator_ascii operator.Dot = refl
operator_ascii operator.Colon = refl

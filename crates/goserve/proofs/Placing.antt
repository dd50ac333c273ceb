-- The place of an offset, from the place of one before it.
use Rattle.std.proofs.Common.{◌≡◌, ℕ, ◌+◌, ◌-◌, ◌≤◌, ◌==◌, Bool, true, false, List, [], ◌∷◌, ◌++◌, length, take, drop, arith, refl, sym, ap, ◌∙◌}
use Rattle.std.proofs.Math.Seq.{take-add}
use Rattle.std.proofs.lemmas.List.{length-take, length-drop}
use Rattle.std.specs.List.{slice_range}
use Rattle.gs_rules.specs.declared.place.Place.{Place}
use Rattle.gs_rules.specs.Lines.{front, behind_byte, place_behind, place_of}

behind_more : (p : Place) (xs ys : List ℕ) → place_behind p (xs ++ ys) ≡ place_behind (place_behind p xs) ys
behind_more p [] ys = refl
behind_more p (x ∷ xs) ys = behind_more (behind_byte p x) xs ys

pub place_further : (p : Place) (input part : List ℕ) (a b : ℕ) → p ≡ place_of input a → a ≤ b → part ≡ slice_range input a b → place_behind p part ≡ place_of input b
place_further p input part a b e h k =
    let whole : a + (b - a) ≡ b = omega arith in
    ap (λ q. place_behind q part) e
    ∙ ap (place_behind (place_of input a)) k
    ∙ sym (behind_more front (take a input) (take (b - a) (drop a input)))
    ∙ ap (place_behind front) (sym (take-add a (b - a) input))
    ∙ ap (λ n. place_of input n) whole

byte_line : (p : Place) (b : ℕ) (t : Bool) → (b == 10) ≡ t → (behind_byte p b).line ≤ p.line + 1
byte_line p b true h = rw h (omega arith)
byte_line p b false h = rw h (omega arith)

byte_column : (p : Place) (b : ℕ) (t : Bool) → (b == 10) ≡ t → (behind_byte p b).column ≤ p.column + 1
byte_column p b true h = rw h (omega arith)
byte_column p b false h = rw h (omega arith)

behind_line : (p : Place) (xs : List ℕ) → (place_behind p xs).line ≤ p.line + length xs
behind_line p [] = omega arith
behind_line p (x ∷ xs) = omega (arith, byte_line p x (x == 10) refl, behind_line (behind_byte p x) xs)

behind_column : (p : Place) (xs : List ℕ) → (place_behind p xs).column ≤ p.column + length xs
behind_column p [] = omega arith
behind_column p (x ∷ xs) = omega (arith, byte_column p x (x == 10) refl, behind_column (behind_byte p x) xs)

pub line_small : (p : Place) (input : List ℕ) (a : ℕ) → p ≡ place_of input a → p.line ≤ 1 + length input
line_small p input a e = omega (arith, ap (λ q. q.line) e, behind_line front (take a input), length-take a input)

pub column_small : (p : Place) (input : List ℕ) (a : ℕ) → p ≡ place_of input a → p.column ≤ 1 + length input
column_small p input a e = omega (arith, ap (λ q. q.column) e, behind_column front (take a input), length-take a input)

pub part_small : (input part : List ℕ) (a b : ℕ) → part ≡ slice_range input a b → length part ≤ length input
part_small input part a b e = omega (arith, ap length e, length-take (b - a) (drop a input), length-drop a input)

-- A list is written as all of its elements but the last, each with a mark behind it, and then the last.
use Rattle.std.proofs.Common.{◌≡◌, ℕ, zero, suc, ◌+◌, ◌<◌, Bool, true, false, List, [], ◌∷◌, ◌++◌, length, take, get_or, map, flat_map, Result, Ok, Err, IfOk, codes, refl, ap, sym, ◌∙◌, arith, if◌then◌else◌}
use Rattle.std.proofs.lemmas.List.{take_more}
use Rattle.std.proofs.lemmas.Grind.{flat_map-append}
use Rattle.gs_terms.specs.declared.term.FieldTerm.{FieldTerm}
use Rattle.gs_terms.specs.declared.term.Method.{Method}
use Rattle.gs_terms.specs.Term.{Term, weight, terms_weight, fields_weight, methods_weight}
use Rattle.gs_terms.specs.Shown.{terms_of, fields_of, methods_of}
use Rattle.gs_print.specs.Text.{joined, term_text, texts, variadic_texts, param_texts, field_texts, method_texts, last_text}
use Rattle.gs_print.specs.Front.{terms_front, fields_front, methods_front, field_written, method_written}

append_none : (xs : List ℕ) → xs ++ [] ≡ xs
append_none [] = refl
append_none (x ∷ xs) = ap (λ ys. x ∷ ys) (append_none xs)

append_more : (xs ys zs : List ℕ) → (xs ++ ys) ++ zs ≡ xs ++ (ys ++ zs)
append_more [] ys zs = refl
append_more (x ∷ xs) ys zs = ap (λ ws. x ∷ ws) (append_more xs ys zs)

module _ {X : Type 0} (f : X → List ℕ) (mark : List ℕ) where
  abbrev front : List X → List ℕ
  front xs = flat_map (λ x. f x ++ mark) xs

  joined_last : (xs : List X) (last : List ℕ) → joined mark (map f xs ++ last ∷ []) ≡ front xs ++ last
  joined_last [] last = refl
  joined_last (x ∷ []) last = ap (λ z. z ++ last) (sym (append_none (f x ++ mark)))
  joined_last (x ∷ y ∷ ys) last =
      ap (λ z. f x ++ mark ++ z) (joined_last (y ∷ ys) last) ∙ sym (append_more (f x ++ mark) (front (y ∷ ys)) last)

  -- one element further
  front_more : (xs : List X) (i : ℕ) (x : X) → i < length xs → x ≡ get_or xs i x → front (take (i + 1) xs) ≡ front (take i xs) ++ (f x ++ mark)
  front_more xs i x h is =
      ap front (take_more xs i x h) ∙ flat_map-append (λ y. f y ++ mark) (take i xs) (get_or xs i x ∷ [])
      ∙ ap (λ z. front (take i xs) ++ z) (append_none (f (get_or xs i x) ++ mark))
      ∙ ap (λ y. front (take i xs) ++ (f y ++ mark)) (sym is)

module _ (own : List ℕ) where
  texts_are : (xs : List Term) (last : Term) → texts own (terms_of (xs ++ last ∷ [])) ≡ map (term_text own) xs ++ term_text own last ∷ []
  texts_are [] last = refl
  texts_are (x ∷ xs) last = ap (λ ys. term_text own x ∷ ys) (texts_are xs last)

  variadic_texts_are : (xs : List Term) (last : Term) →
      variadic_texts own (terms_of (xs ++ last ∷ [])) ≡ map (term_text own) xs ++ last_text last (term_text own last) ∷ []
  variadic_texts_are [] last = refl
  variadic_texts_are (x ∷ []) last = refl
  variadic_texts_are (x ∷ y ∷ ys) last = ap (λ zs. term_text own x ∷ zs) (variadic_texts_are (y ∷ ys) last)

  field_texts_are : (xs : List FieldTerm) (last : FieldTerm) → field_texts own (fields_of (xs ++ last ∷ [])) ≡ map (field_written own) xs ++ field_written own last ∷ []
  field_texts_are [] last = refl
  field_texts_are (x ∷ xs) last = ap (λ ys. field_written own x ∷ ys) (field_texts_are xs last)

  method_texts_are : (xs : List Method) (last : Method) → method_texts own (methods_of (xs ++ last ∷ [])) ≡ map (method_written own) xs ++ method_written own last ∷ []
  method_texts_are [] last = refl
  method_texts_are (x ∷ xs) last = ap (λ ys. method_written own x ∷ ys) (method_texts_are xs last)

  pub params_written : (xs : List Term) (last : Term) (v : Bool) →
      joined (codes ", ") (param_texts own (terms_of (xs ++ last ∷ [])) v)
      ≡ terms_front own xs ++ (if v then last_text last (term_text own last) else term_text own last)
  params_written xs last true = ap (joined (codes ", ")) (variadic_texts_are xs last) ∙ joined_last (term_text own) (codes ", ") xs (last_text last (term_text own last))
  params_written xs last false = ap (joined (codes ", ")) (texts_are xs last) ∙ joined_last (term_text own) (codes ", ") xs (term_text own last)

  pub fields_written : (xs : List FieldTerm) (last : FieldTerm) →
      joined (codes "; ") (field_texts own (fields_of (xs ++ last ∷ []))) ≡ fields_front own xs ++ (field_written own last ++ [])
  fields_written xs last =
      ap (joined (codes "; ")) (field_texts_are xs last) ∙ joined_last (field_written own) (codes "; ") xs (field_written own last)
      ∙ ap (λ z. fields_front own xs ++ z) (sym (append_none (field_written own last)))

  pub methods_written : (xs : List Method) (last : Method) →
      joined (codes "; ") (method_texts own (methods_of (xs ++ last ∷ []))) ≡ methods_front own xs ++ (method_written own last ++ [])
  methods_written xs last =
      ap (joined (codes "; ")) (method_texts_are xs last) ∙ joined_last (method_written own) (codes "; ") xs (method_written own last)
      ∙ ap (λ z. methods_front own xs ++ z) (sym (append_none (method_written own last)))

-- the last text is written behind the others
pub last_written : {A E : Type 0} (r : Result A E) (before between after front last whole : List ℕ) →
    between ≡ before ++ front → whole ≡ front ++ last → IfOk r (λ _. after ≡ between ++ last) → IfOk r (λ _. after ≡ before ++ whole)
last_written (Ok a) before between after front last whole p q h =
    h ∙ ap (λ z. z ++ last) p ∙ append_more before front last ∙ ap (λ z. before ++ z) (sym q)
last_written (Err e) before between after front last whole p q h = h

-- ---- measures

pub terms_split : (xs : List Term) (last : Term) → terms_weight (terms_of (xs ++ last ∷ [])) ≡ terms_weight (terms_of xs) + weight last + 1
terms_split [] last = omega arith
terms_split (x ∷ xs) last = omega (arith, terms_split xs last)

pub fields_split : (xs : List FieldTerm) (last : FieldTerm) → fields_weight (fields_of (xs ++ last ∷ [])) ≡ fields_weight (fields_of xs) + weight last.term + 1
fields_split [] last = omega arith
fields_split (x ∷ xs) last = omega (arith, fields_split xs last)

pub methods_split : (xs : List Method) (last : Method) → methods_weight (methods_of (xs ++ last ∷ [])) ≡ methods_weight (methods_of xs) + weight last.term + 1
methods_split [] last = omega arith
methods_split (x ∷ xs) last = omega (arith, methods_split xs last)

pub positive : (xs : List Term) → 0 < terms_weight (terms_of xs)
positive [] = omega arith
positive (x ∷ xs) = omega arith

pub fields_positive : (xs : List FieldTerm) → 0 < fields_weight (fields_of xs)
fields_positive [] = omega arith
fields_positive (x ∷ xs) = omega arith

pub methods_positive : (xs : List Method) → 0 < methods_weight (methods_of xs)
methods_positive [] = omega arith
methods_positive (x ∷ xs) = omega arith

pub term_lighter : (ts : List Term) (i : ℕ) (t : Term) → i < length ts → t ≡ get_or ts i t → weight t < terms_weight (terms_of ts)
term_lighter [] i t within is = absurd (omega (arith, within))
term_lighter (x ∷ ts) zero t within is = omega (arith, ap weight is)
term_lighter (x ∷ ts) (suc i) t within is = omega (arith, term_lighter ts i t (omega (arith, within)) is)

pub field_lighter : (fs : List FieldTerm) (i : ℕ) (f : FieldTerm) → i < length fs → f ≡ get_or fs i f → weight f.term < fields_weight (fields_of fs)
field_lighter [] i f within is = absurd (omega (arith, within))
field_lighter (x ∷ fs) zero f within is = omega (arith, ap (λ (g : FieldTerm). weight g.term) is)
field_lighter (x ∷ fs) (suc i) f within is = omega (arith, field_lighter fs i f (omega (arith, within)) is)

pub method_lighter : (ms : List Method) (i : ℕ) (m : Method) → i < length ms → m ≡ get_or ms i m → weight m.term < methods_weight (methods_of ms)
method_lighter [] i m within is = absurd (omega (arith, within))
method_lighter (x ∷ ms) zero m within is = omega (arith, ap (λ (g : Method). weight g.term) is)
method_lighter (x ∷ ms) (suc i) m within is = omega (arith, method_lighter ms i m (omega (arith, within)) is)

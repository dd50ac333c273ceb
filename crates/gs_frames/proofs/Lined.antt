-- Lines are cut in one way only.
use Rattle.std.proofs.Common.{◌≡◌, ℕ, ◌<◌, ◌≤◌, Bool, true, false, List, [], ◌∷◌, ◌++◌, length, refl, sym, ◌∙◌, ap, arith, inl, inr, ◌⊎◌, append_assoc, length-append, cond}
use Rattle.std.specs.List.{AllByRecursion}
use Rattle.std.proofs.lemmas.List.{append-nil}
use Rattle.std.specs.Str.Parse.{digits_value}
use Rattle.gs_frames.specs.Header.{has, IsField, AreFields, IsHeader, HasBrokenLine, lines_then, numbers_of, is_content_length, value_of}
use Rattle.gs_frames.proofs.Bytes.{has_at, same_cut, same_line, field_line}

-- lines behind lines
pub lines_then-append : (fs gs : List (List ℕ)) (s : List ℕ) → lines_then (fs ++ gs) s ≡ lines_then fs (lines_then gs s)
lines_then-append [] gs s = refl
lines_then-append (f ∷ fs) gs s = ap (λ (t : List ℕ). f ++ 13 ∷ 10 ∷ t) (lines_then-append fs gs s)

pub lines_then_more : (fs : List (List ℕ)) (s t : List ℕ) → lines_then fs s ++ t ≡ lines_then fs (s ++ t)
lines_then_more [] s t = refl
lines_then_more (f ∷ fs) s t = append_assoc f (13 ∷ 10 ∷ lines_then fs s) t ∙ ap (λ (u : List ℕ). f ++ 13 ∷ 10 ∷ u) (lines_then_more fs s t)

pub rest_within : (fs : List (List ℕ)) (rest : List ℕ) → length rest ≤ length (lines_then fs rest)
rest_within [] rest = omega arith
rest_within (f ∷ fs) rest = omega (arith, rest_within fs rest, length-append f (13 ∷ 10 ∷ lines_then fs rest))

-- a header has its empty line
pub header_some : (a : List ℕ) (n : ℕ) → IsHeader a n → 0 < length a
header_some a n h = omega (arith, ap length h.lines, rest_within h.fields (13 ∷ 10 ∷ []))

numbers_cons : (b : Bool) (n : ℕ) (xs ys : List ℕ) → cond b (n ∷ (xs ++ ys)) (xs ++ ys) ≡ cond b (n ∷ xs) xs ++ ys
numbers_cons true n xs ys = refl
numbers_cons false n xs ys = refl

pub numbers_of-append : (fs gs : List (List ℕ)) → numbers_of (fs ++ gs) ≡ numbers_of fs ++ numbers_of gs
numbers_of-append [] gs = refl
numbers_of-append (f ∷ fs) gs = rw (numbers_of-append fs gs) (numbers_cons (is_content_length f) (digits_value 10 (value_of f)) (numbers_of fs) (numbers_of gs))

pub each-append : (fs gs : List (List ℕ)) → AllByRecursion IsField fs → AllByRecursion IsField gs → AllByRecursion IsField (fs ++ gs)
each-append [] gs p q = q
each-append (f ∷ fs) gs p q = (p.0, each-append fs gs p.1 q)

each_front : (fs gs : List (List ℕ)) → AllByRecursion IsField (fs ++ gs) → AllByRecursion IsField fs
each_front [] gs p = tt
each_front (f ∷ fs) gs p = (p.0, each_front fs gs p.1)

pub each_back : (fs gs : List (List ℕ)) → AllByRecursion IsField (fs ++ gs) → AllByRecursion IsField gs
each_back [] gs p = p
each_back (f ∷ fs) gs p = each_back fs gs p.1

-- the fields before others are fields that a header may have
pub fields_front : (fs gs : List (List ℕ)) → AreFields (fs ++ gs) → AreFields fs
fields_front fs gs a = record {
  each = each_front fs gs a.each;
  once = omega (arith, a.once, ap length (numbers_of-append fs gs), length-append (numbers_of fs) (numbers_of gs));
}

-- the second cut goes on where the first stops
pub record Ahead (fs : List (List ℕ)) (s : List ℕ) (gs : List (List ℕ)) (t : List ℕ) : Type 0 where
  pub more : List (List ℕ)
  pub fields : gs ≡ fs ++ more
  pub rest : s ≡ lines_then more t

ahead : (f g : List ℕ) (fs gs : List (List ℕ)) (s t : List ℕ) → f ≡ g → Ahead fs s gs t → Ahead (f ∷ fs) s (g ∷ gs) t
ahead f g fs gs s t e a = record { more = a.more; fields = (let h = a.fields in cc); rest = a.rest }

pub two_ways : (fs gs : List (List ℕ)) (s t : List ℕ) → AllByRecursion IsField fs → AllByRecursion IsField gs → lines_then fs s ≡ lines_then gs t → Ahead fs s gs t ⊎ Ahead gs t fs s
two_ways [] gs s t p q e = inl (record { more = gs; fields = refl; rest = e })
two_ways (f ∷ fs) [] s t p q e = inr (record { more = f ∷ fs; fields = refl; rest = sym e })
two_ways (f ∷ fs) (g ∷ gs) s t p q e =
    let h = same_line f g (lines_then fs s) (lines_then gs t) p.0.no_lf q.0.no_lf e in
    elim (two_ways fs gs s t p.1 q.1 h.1) [ inl w ↦ inl (ahead f g fs gs s t h.0 w) | inr w ↦ inr (ahead g f gs fs t s (sym h.0) w) ]

no_field_is_empty : (f x y : List ℕ) → IsField f → 13 ∷ 10 ∷ x ≡ f ++ 13 ∷ 10 ∷ y → ⊥
no_field_is_empty f x y p e =
    let h = same_line [] f x y refl p.no_lf e in
    let colon = p.colon in
    let none : has 58 f ≡ false = ap (has 58) (sym h.0) in
    absurd (cc)

-- an empty line is no field's
pub at_end : (more : List (List ℕ)) (x t : List ℕ) → AllByRecursion IsField more → 13 ∷ 10 ∷ x ≡ lines_then more t → (more ≡ []) × (13 ∷ 10 ∷ x ≡ t)
at_end [] x t p e = (refl, e)
at_end (f ∷ more) x t p e = absurd (no_field_is_empty f x (lines_then more t) p.0 e)

-- lines that are followed by an LF have one
pub has_lf : (fs : List (List ℕ)) (s : List ℕ) → has 10 s ≡ true → has 10 (lines_then fs s) ≡ true
has_lf [] s h = h
has_lf (f ∷ fs) s h = ap (has 10) (sym (append_assoc f (13 ∷ []) (10 ∷ lines_then fs s))) ∙ has_at 10 (f ++ 13 ∷ []) (lines_then fs s)

front_more : (gs k : List (List ℕ)) (f : List ℕ) → (gs ++ f ∷ []) ++ k ≡ gs ++ f ∷ k
front_more gs k f = append_assoc gs (f ∷ []) k

-- a broken line is not the line of a further field
pub not_further : (b : List ℕ) (h : HasBrokenLine b) (f y : List ℕ) (k : List (List ℕ)) → AreFields (h.fields ++ f ∷ k) → h.line ++ 10 ∷ h.more ≡ f ++ 13 ∷ 10 ∷ y → ⊥
not_further b h f y k a e =
    let all : AreFields (h.fields ++ f ∷ []) = fields_front (h.fields ++ f ∷ []) k (rw (front_more h.fields k f) a) in
    let this : IsField f = (each_back h.fields (f ∷ []) all.each).0 in
    h.no_field f (field_line h.line f h.more y h.no_lf this.no_lf e).0 all

-- nor the empty line behind a Content-Length
pub not_the_end : (b : List ℕ) (h : HasBrokenLine b) (n : ℕ) (x : List ℕ) → numbers_of h.fields ≡ n ∷ [] → h.line ++ 10 ∷ h.more ≡ 13 ∷ 10 ∷ x → ⊥
not_the_end b h n x e s =
    let l = same_cut 10 h.line (13 ∷ []) h.more x h.no_lf refl s in
    let none = h.no_end l.0 in
    absurd (cc)

header_fields : (a : List ℕ) (n : ℕ) (h : IsHeader a n) → AreFields h.fields
header_fields a n h = record { each = h.each; once = omega (arith, ap length h.number) }

-- a header and what follows it, as lines
header_lines : (a x : List ℕ) (n : ℕ) (h : IsHeader a n) → a ++ x ≡ lines_then h.fields (13 ∷ 10 ∷ x)
header_lines a x n h = ap (λ (t : List ℕ). t ++ x) h.lines ∙ lines_then_more h.fields (13 ∷ 10 ∷ []) x

pub record OneHeader (a b x y : List ℕ) (m n : ℕ) : Type 0 where
  pub header : a ≡ b
  pub number : m ≡ n
  pub more : x ≡ y

one_cut : (a b x y : List ℕ) (m n : ℕ) (g : IsHeader a m) (h : IsHeader b n) → Ahead g.fields (13 ∷ 10 ∷ x) h.fields (13 ∷ 10 ∷ y) → OneHeader a b x y m n
one_cut a b x y m n g h w =
    let all : AllByRecursion IsField (g.fields ++ w.more) = rw (← w.fields) h.each in
    let end = at_end w.more x (13 ∷ 10 ∷ y) (each_back g.fields w.more all) w.rest in
    let same : h.fields ≡ g.fields = w.fields ∙ (ap (λ (t : List (List ℕ)). g.fields ++ t) end.0 ∙ append-nil g.fields) in
    let numbers : m ∷ [] ≡ n ∷ [] = sym g.number ∙ (ap numbers_of (sym same) ∙ h.number) in
    let tails = end.1 in
    record {
      header = g.lines ∙ (ap (λ (t : List (List ℕ)). lines_then t (13 ∷ 10 ∷ [])) (sym same) ∙ sym h.lines);
      number = (cc);
      more = (cc);
    }

turned : (a b x y : List ℕ) (m n : ℕ) → OneHeader a b x y m n → OneHeader b a y x n m
turned a b x y m n o = record { header = sym o.header; number = sym o.number; more = sym o.more }

-- no header begins another, and each has one number
pub one_header : (a b x y : List ℕ) (m n : ℕ) → IsHeader a m → IsHeader b n → a ++ x ≡ b ++ y → OneHeader a b x y m n
one_header a b x y m n g h e =
    elim (two_ways g.fields h.fields (13 ∷ 10 ∷ x) (13 ∷ 10 ∷ y) g.each h.each (sym (header_lines a x m g) ∙ (e ∙ header_lines b y n h)))
    [ inl w ↦ one_cut a b x y m n g h w | inr w ↦ turned b a y x n m (one_cut b a y x n m h g w) ]

broken_before : (a x : List ℕ) (n : ℕ) (g : IsHeader a n) (h : HasBrokenLine (a ++ x)) → (more : List (List ℕ)) → g.fields ≡ h.fields ++ more → h.line ++ 10 ∷ h.more ≡ lines_then more (13 ∷ 10 ∷ x) → ⊥
broken_before a x n g h [] e s = not_the_end (a ++ x) h n x (ap numbers_of (sym (append-nil h.fields) ∙ sym e) ∙ g.number) s
broken_before a x n g h (f ∷ k) e s = not_further (a ++ x) h f (lines_then k (13 ∷ 10 ∷ x)) k (rw (← e) (header_fields a n g)) s

broken_behind : (a x : List ℕ) (n : ℕ) (g : IsHeader a n) (h : HasBrokenLine (a ++ x)) → Ahead g.fields (13 ∷ 10 ∷ x) h.fields (h.line ++ 10 ∷ h.more) → ⊥
broken_behind a x n g h w =
    let all : AllByRecursion IsField (g.fields ++ w.more) = rw (← w.fields) h.before.each in
    let end = at_end w.more x (h.line ++ 10 ∷ h.more) (each_back g.fields w.more all) w.rest in
    let same : h.fields ≡ g.fields = w.fields ∙ (ap (λ (t : List (List ℕ)). g.fields ++ t) end.0 ∙ append-nil g.fields) in
    not_the_end (a ++ x) h n x (ap numbers_of same ∙ g.number) (sym end.1)

-- where a header stands at the front, no line breaks a rule
pub header_unbroken : (a x : List ℕ) (n : ℕ) → IsHeader a n → HasBrokenLine (a ++ x) → ⊥
header_unbroken a x n g h =
    elim (two_ways g.fields h.fields (13 ∷ 10 ∷ x) (h.line ++ 10 ∷ h.more) g.each h.before.each (sym (header_lines a x n g) ∙ h.front))
    [ inl w ↦ broken_behind a x n g h w | inr w ↦ broken_before a x n g h w.more w.fields w.rest ]

-- fields, and then bytes without an LF
pub record IsOpen (bytes : List ℕ) : Type 0 where
  pub fields : List (List ℕ)
  pub rest : List ℕ
  pub are : AreFields fields
  pub text : bytes ≡ lines_then fields rest
  pub no_lf : has 10 rest ≡ false

no_lf_in : (s : List ℕ) (t : List ℕ) → has 10 s ≡ false → s ≡ t → has 10 t ≡ true → ⊥
no_lf_in s t p e q = let f = ap (has 10) e in absurd (cc)

pub open_no_header : (a x : List ℕ) (n : ℕ) → IsHeader a n → IsOpen (a ++ x) → ⊥
open_no_header a x n g o =
    elim (two_ways g.fields o.fields (13 ∷ 10 ∷ x) o.rest g.each o.are.each (sym (header_lines a x n g) ∙ o.text)) [
      | inl w ↦ (let all : AllByRecursion IsField (g.fields ++ w.more) = rw (← w.fields) o.are.each in
          let end = at_end w.more x o.rest (each_back g.fields w.more all) w.rest in
          no_lf_in o.rest (13 ∷ 10 ∷ x) o.no_lf (sym end.1) refl)
      | inr w ↦ no_lf_in o.rest (lines_then w.more (13 ∷ 10 ∷ x)) o.no_lf w.rest (has_lf w.more (13 ∷ 10 ∷ x) refl)
    ]

open_further : (b : List ℕ) (h : HasBrokenLine b) (o : IsOpen b) → (more : List (List ℕ)) → o.fields ≡ h.fields ++ more → h.line ++ 10 ∷ h.more ≡ lines_then more o.rest → ⊥
open_further b h o [] e s = no_lf_in o.rest (h.line ++ 10 ∷ h.more) o.no_lf (sym s) (has_at 10 h.line h.more)
open_further b h o (f ∷ k) e s = not_further b h f (lines_then k o.rest) k (rw (← e) o.are) s

pub open_unbroken : (b : List ℕ) → HasBrokenLine b → IsOpen b → ⊥
open_unbroken b h o =
    elim (two_ways h.fields o.fields (h.line ++ 10 ∷ h.more) o.rest h.before.each o.are.each (sym h.front ∙ o.text)) [
      | inl w ↦ open_further b h o w.more w.fields w.rest
      | inr w ↦ no_lf_in o.rest (lines_then w.more (h.line ++ 10 ∷ h.more)) o.no_lf w.rest (has_lf w.more (h.line ++ 10 ∷ h.more) (has_at 10 h.line h.more))
    ]

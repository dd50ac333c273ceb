-- The items of a string.
use Rattle.std.proofs.Common.{◌≡◌, ℕ, suc, ◌+◌, ◌-◌, ◌<◌, ◌≤◌, false, ◌||◌, ◌==◌, cond, List, [], ◌∷◌, ◌++◌, length, take, drop, get_or, sym, refl, ap, ◌∙◌, subst, ⊎_elim, inl, inr, arith, Some, None, Option, length-append, append_assoc, append-nil, take-append-drop, length-take-le, length-drop, get_or-drop, add-zero}
use Rattle.std.specs.Prelude.{◌≢◌, All}
use Rattle.std.specs.List.{flat_map}
use Rattle.std.proofs.Math.Seq.{take-append_seam, drop-append_seam, take-length}
use Rattle.std.proofs.lemmas.Bool.{false≢true, cases_Bool, eqb-true, ne_eqb}
use Rattle.std.proofs.lemmas.List.Elements.{All-head, All-tail, All-nil, All-push}
use Rattle.std.proofs.lemmas.Grind.{flat_map-append}
use Rattle.std.proofs.lemmas.List.{drop-drop}
use Rattle.gs_syntax.specs.Quotes.{IsEscape, IsItem, IsText}
use Rattle.gs_scan.specs.declared.escape.Item.{Item}
use Rattle.gs_scan.specs.declared.escape.Item.TheVariants.{Byte}
use Rattle.gs_scan.specs.Escapes.{Read, code_of, bytes_of, escape_at, item_at}
use Rattle.gs_scan.specs.Reading.{IsOnlyFront, NoFront}
use Rattle.gs_scan.proofs.EscapeLemmas.{double_quote, escape_read, escape_spelled}

-- an item: how it is written, and what it adds to the value
abbrev pub Pair : Type 0
Pair = List ℕ × List ℕ

-- an item that was read, and its length
abbrev got : Item → ℕ → Option Read
got item n = Some (item, n)

got_same : (i j : Item) (m n : ℕ) → got i m ≡ got j n → (i ≡ j) × (m ≡ n)
got_same i j m n h =
    let one : Read = (i, m) in
    let other : Read = (j, n) in
    let pair : one ≡ other = cc in
    (ap (λ x. x.0) pair, ap (λ x. x.1) pair)

pub item_at-nil : item_at [] ≡ None
unfolding item_at
item_at-nil = refl

-- the reader behind the first byte
pub item_at-cons : (b : ℕ) (t : List ℕ) → item_at (b ∷ t) ≡ cond (b == 10 || b == 34) None (cond (b == 92) (escape_at 34 t) (got (Byte b) 1))
unfolding item_at
item_at-cons b t =
    let some : (suc (length t) == 0) ≡ false = ne_eqb (suc (length t)) 0 (λ e. omega arith) in
    ap (λ x. cond x None (cond (b == 10 || b == 34) None (cond (b == 92) (escape_at 34 t) (got (Byte b) 1)))) some

-- ---- an item is read as itself, whatever follows

plain_read : (v : ℕ) (r : List ℕ) → v ≢ 34 → v ≢ 92 → v ≢ 10 → item_at (v ∷ r) ≡ got (Byte v) 1
plain_read v r no_quote no_slash no_line =
    item_at-cons v r ∙ (λ i. cond (ne_eqb v 10 no_line i || ne_eqb v 34 no_quote i) None (cond (ne_eqb v 92 no_slash i) (escape_at 34 r) (got (Byte v) 1)))

-- what is read of it
abbrev pub Reads : Pair → List ℕ → Type 0
Reads item r = (e : Item) × (item_at (item.0 ++ r) ≡ Some (e, length item.0)) × (bytes_of e ≡ item.1)

pub item_read : (item : Pair) (r : List ℕ) → IsItem item → Reads item r
item_read (bytes, v) r is =
    ⊎_elim
    (λ p. (Byte p.0, ap (λ l. item_at (l ++ r)) p.1 ∙ plain_read p.0 r p.2 p.3 p.4 ∙ ap (λ l. Some (Byte p.0, length l)) (sym p.1), sym p.5))
    (λ e. let f = escape_read 34 e.0 bytes v r double_quote e.1 in
    (f.item, ap (λ l. item_at (l ++ r)) f.backslash ∙ item_at-cons 92 (f.tail ++ r) ∙ f.read, f.value_is))
    is

-- ---- what is read is an item

abbrev pub ItemFront : List ℕ → Item → ℕ → Type 0
ItemFront text e n = (0 < n) × (n ≤ length text) × IsItem (take n text, bytes_of e)

plain_front : (b n : ℕ) (t : List ℕ) (e : Item) → (b == 10 || b == 34) ≡ false → (b == 92) ≡ false → got (Byte b) 1 ≡ got e n → ItemFront (b ∷ t) e n
plain_front b n t e goes plain h =
    let same = got_same (Byte b) e 1 n h in
    let item : IsItem (take 1 (b ∷ t), bytes_of (Byte b)) =
    inl (b, refl, (λ q. false≢true (sym goes ∙ ap (λ x. x == 10 || x == 34) q)), (λ q. false≢true (sym plain ∙ ap (λ x. x == 92) q)), (λ q. false≢true (sym goes ∙ ap (λ x. x == 10 || x == 34) q)), refl) in
    let size = same.1 in
    (omega arith, omega arith, subst (λ x. IsItem (take n (b ∷ t), bytes_of x)) same.0 (subst (λ k. IsItem (take k (b ∷ t), bytes_of (Byte b))) size item))

escape_front : (n : ℕ) (t : List ℕ) (e : Item) → escape_at 34 t ≡ got e n → ItemFront (92 ∷ t) e n
escape_front n t e h =
    let f = escape_spelled 34 n t e double_quote h in
    let size = f.size in
    let room = f.room in
    let bytes : 92 ∷ take f.inner t ≡ take n (92 ∷ t) = ap (λ k. take k (92 ∷ t)) (sym size) in
    (omega arith, omega arith, inr (code_of e, subst (λ l. IsEscape 34 l (code_of e) (bytes_of e)) bytes f.escape))

pub item_spelled : (text : List ℕ) (e : Item) (n : ℕ) → item_at text ≡ Some (e, n) → ItemFront text e n
item_spelled [] e n h = let bad : None ≡ got e n = sym item_at-nil ∙ h in cc
item_spelled (b ∷ t) e n h =
    let more : Option Read = cond (b == 92) (escape_at 34 t) (got (Byte b) 1) in
    let start : cond (b == 10 || b == 34) None more ≡ got e n = sym (item_at-cons b t) ∙ h in
    ⊎_elim
    (λ stop. let bad : None ≡ got e n = sym (ap (λ x. cond x None more) stop) ∙ start in cc)
    (λ goes.
    let read : more ≡ got e n = sym (ap (λ x. cond x None more) goes) ∙ start in
    ⊎_elim
    (λ slash. subst (λ x. ItemFront (x ∷ t) e n) (sym (eqb-true b 92 slash)) (escape_front n t e (sym (ap (λ x. cond x (escape_at 34 t) (got (Byte b) 1)) slash) ∙ read)))
    (λ plain. plain_front b n t e goes plain (sym (ap (λ x. cond x (escape_at 34 t) (got (Byte b) 1)) plain) ∙ read))
    (cases_Bool (b == 92)))
    (cases_Bool (b == 10 || b == 34))

pub no_item_at_quote : (s : List ℕ) → item_at (34 ∷ s) ≡ None
no_item_at_quote s = item_at-cons 34 s

-- ---- items one behind the other

abbrev pub spelling : List Pair → List ℕ
spelling items = flat_map (λ item. item.0) items

abbrev pub values : List Pair → List ℕ
values items = flat_map (λ item. item.1) items

-- what two lists of items begin alike with, they have alike: the longer has more items where the other stops
abbrev pub Rest : List Pair → List Pair → List ℕ → List ℕ → Type 0
Rest xs ys r s = (zs : List Pair) × (ys ≡ xs ++ zs) × All IsItem zs × (r ≡ spelling zs ++ 34 ∷ s)

same_item : (x y : Pair) (r s : List ℕ) → IsItem x → IsItem y → x.0 ++ r ≡ y.0 ++ s → (x ≡ y) × (r ≡ s)
same_item x y r s is_x is_y e =
    let p = item_read x r is_x in
    let q = item_read y s is_y in
    let same = got_same p.0 q.0 (length x.0) (length y.0) (sym p.1 ∙ ap item_at e ∙ q.1) in
    let bytes : x.0 ≡ y.0 = sym (take-append_seam x.0 r) ∙ (λ i. take (same.1 i) (e i)) ∙ take-append_seam y.0 s in
    let value : x.1 ≡ y.1 = sym p.2 ∙ ap bytes_of same.0 ∙ q.2 in
    ((λ i. (bytes i, value i)), sym (drop-append_seam x.0 r) ∙ (λ i. drop (same.1 i) (e i)) ∙ drop-append_seam y.0 s)

pub items_rest : (xs ys : List Pair) (r s : List ℕ) → All IsItem xs → All IsItem ys → spelling xs ++ r ≡ spelling ys ++ 34 ∷ s → Rest xs ys r s
items_rest [] ys r s all_x all_y e = (ys, refl, all_y, e)
items_rest (x ∷ xs) [] r s all_x all_y e =
    absurd (let is = All-head IsItem x xs all_x in
    let whole : x.0 ++ (spelling xs ++ r) ≡ 34 ∷ s = sym (append_assoc x.0 (spelling xs) r) ∙ e in
    let p = item_read x (spelling xs ++ r) is in
    let bad : got p.0 (length x.0) ≡ None = sym p.1 ∙ ap item_at whole ∙ no_item_at_quote s in cc)
items_rest (x ∷ xs) (y ∷ ys) r s all_x all_y e =
    let whole : x.0 ++ (spelling xs ++ r) ≡ y.0 ++ (spelling ys ++ 34 ∷ s) = sym (append_assoc x.0 (spelling xs) r) ∙ e ∙ append_assoc y.0 (spelling ys) (34 ∷ s) in
    let p = same_item x y (spelling xs ++ r) (spelling ys ++ 34 ∷ s) (All-head IsItem x xs all_x) (All-head IsItem y ys all_y) whole in
    let rest = items_rest xs ys r s (All-tail IsItem x xs all_x) (All-tail IsItem y ys all_y) p.1 in
    (rest.0, (λ i. sym p.0 i ∷ rest.1 i), rest.2, rest.3)

one_item : (items : List Pair) (new : Pair) → spelling items ++ new.0 ≡ spelling (items ++ new ∷ [])
one_item items new = sym (flat_map-append (λ item. item.0) items (new ∷ []) ∙ ap (λ l. spelling items ++ l) (append-nil new.0))

-- the string so far
pub record InText (text value : List ℕ) (at : ℕ) : Type 0 where
  pub items : List Pair
  pub all : All IsItem items
  pub whole : text ≡ 34 ∷ (spelling items ++ drop at text)
  pub values : value ≡ flat_map (λ item. item.1) items
  pub place : at ≡ 1 + length (spelling items)
  pub within : at ≤ length text

pub start : (text value : List ℕ) → get_or text 0 0 ≡ 34 → value ≡ [] → InText text value 1
start [] value quote empty = absurd (omega arith)
start (b ∷ text) value quote empty = record {
  items = [];
  all = All-nil IsItem;
  whole = ap (λ x. x ∷ text) quote;
  values = empty;
  place = refl;
  within = omega arith;
}

one_value : (items : List Pair) (new : Pair) → values items ++ new.1 ≡ values (items ++ new ∷ [])
one_value items new = sym (flat_map-append (λ item. item.1) items (new ∷ []) ∙ ap (λ l. values items ++ l) (append-nil new.1))

pub step : (text value more front : List ℕ) (at n : ℕ) (e : Item) → InText text value at → front ≡ drop at text → item_at front ≡ Some (e, n) → more ≡ value ++ bytes_of e → InText text more (at + n)
step text value more front at n e sofar is_front read is_more =
    let p = item_spelled (drop at text) e n (ap item_at (sym is_front) ∙ read) in
    let new : Pair = (take n (drop at text), bytes_of e) in
    let rest : take n (drop at text) ++ drop (at + n) text ≡ drop at text =
    ap (λ l. take n (drop at text) ++ l) (sym (drop-drop n at text)) ∙ take-append-drop n (drop at text) in
    let long = length-take-le n (drop at text) p.1 in
    record {
      items = sofar.items ++ new ∷ [];
      all = All-push IsItem sofar.items new sofar.all p.2;
      whole = sofar.whole ∙ ap (λ l. 34 ∷ l) (ap (λ l. spelling sofar.items ++ l) (sym rest) ∙ sym (append_assoc (spelling sofar.items) (take n (drop at text)) (drop (at + n) text))
          ∙ ap (λ l. l ++ drop (at + n) text) (one_item sofar.items new));
      values = is_more ∙ ap (λ l. l ++ bytes_of e) sofar.values ∙ one_value sofar.items new;
      place = let e = sofar.place in omega (arith, e, ap length (sym (one_item sofar.items new)), length-append (spelling sofar.items) (take n (drop at text)), long);
      within = let w = sofar.within in let q = p.1 in omega (arith, w, q, length-drop at text);
    }

-- no item comes where none is read
none_more : (zs : List Pair) (s r : List ℕ) → All IsItem zs → r ≡ spelling zs ++ 34 ∷ s → item_at r ≡ None → zs ≡ []
none_more [] s r all e none = refl
none_more (z ∷ zs) s r all e none =
    absurd (let is = All-head IsItem z zs all in
    let p = item_read z (spelling zs ++ 34 ∷ s) is in
    let read : got p.0 (length z.0) ≡ None = sym p.1 ∙ ap item_at (sym (append_assoc z.0 (spelling zs) (34 ∷ s)) ∙ sym e) ∙ none in cc)

none_left : (zs : List Pair) (s r : List ℕ) → All IsItem zs → r ≡ spelling zs ++ 34 ∷ s → item_at r ≡ None → (get_or r 0 0 ≡ 34 → ⊥) → ⊥
none_left zs s r all e none other =
    let last = none_more zs s r all e none in
    other (ap (λ l. get_or l 0 0) (e ∙ ap (λ l. spelling l ++ 34 ∷ s) last))

cons_of : (r : List ℕ) → get_or r 0 0 ≡ 34 → r ≡ 34 ∷ drop 1 r
cons_of [] e = absurd (omega arith)
cons_of (a ∷ r) e = ap (λ x. x ∷ r) e

omega_long : (text value : List ℕ) (at : ℕ) → InText text value at → drop at text ≡ 34 ∷ drop 1 (drop at text) → at + 1 ≤ length text
omega_long text value at sofar tail = let w = sofar.within in omega (arith, ap length tail, length-drop at text, w)

shift : (k : ℕ) → (1 + k) + 1 ≡ suc (k + 1)
shift k = omega arith

-- a string at the front has the items so far, and more
text_rest : (text value other : List ℕ) (at m : ℕ) (sofar : InText text value at) → m ≤ length text → IsText (take m text) other
    → (zs : List Pair) × All IsItem zs × (drop at text ≡ spelling zs ++ 34 ∷ drop m text) × (other ≡ values (sofar.items ++ zs)) × (m ≡ 2 + length (spelling (sofar.items ++ zs)))
text_rest text value other at m sofar within is =
    let whole : spelling sofar.items ++ drop at text ≡ spelling is.0 ++ 34 ∷ drop m text =
    ap (drop 1) (sym sofar.whole ∙ sym (take-append-drop m text) ∙ ap (λ l. l ++ drop m text) is.2) ∙ append_assoc (spelling is.0) (34 ∷ []) (drop m text) in
    let rest = items_rest sofar.items is.0 (drop at text) (drop m text) sofar.all is.1 whole in
    let long = length-take-le m text within in (
      rest.0,
      rest.2,
      rest.3,
      is.3 ∙ ap values rest.1,
      omega (arith, ap length is.2, long, length-append (spelling is.0) (34 ∷ []), ap (λ l. length (spelling l)) rest.1),
    )

-- where neither an item nor a quote comes, there is no string
pub no_text : (text value front : List ℕ) (at : ℕ) → InText text value at → front ≡ drop at text → item_at front ≡ None → (get_or text at 0 ≡ 34 → ⊥) → NoFront IsText text
no_text text value front at sofar is_front none other m v within is =
    let p = text_rest text value v at m sofar within is in
    let begins : get_or (drop at text) 0 0 ≡ get_or text at 0 = get_or-drop at text 0 0 ∙ ap (λ k. get_or text k 0) (add-zero at) in
    none_left p.0 (drop m text) (drop at text) p.1 p.2 (ap item_at (sym is_front) ∙ none) (λ e. other (sym begins ∙ e))

-- where a quote comes, the string ends
pub text_front : (text value front : List ℕ) (at n : ℕ) → InText text value at → front ≡ drop at text → item_at front ≡ None → get_or text at 0 ≡ 34 → n ≡ at + 1 → IsOnlyFront IsText text value n
text_front text value front at n sofar is_front none quote size =
    let begins : get_or (drop at text) 0 0 ≡ 34 = get_or-drop at text 0 0 ∙ ap (λ k. get_or text k 0) (add-zero at) ∙ quote in
    let tail : drop at text ≡ 34 ∷ drop 1 (drop at text) = cons_of (drop at text) begins in
    let place = sofar.place in
    let long = omega_long text value at sofar tail in
    let front_is : take n text ≡ 34 ∷ (spelling sofar.items ++ 34 ∷ []) =
    (λ i. take ((size ∙ ap (λ k. k + 1) place ∙ shift (length (spelling sofar.items)) ∙ ap suc (sym (length-append (spelling sofar.items) (34 ∷ [])))) i)
    ((sofar.whole ∙ ap (λ l. 34 ∷ (spelling sofar.items ++ l)) tail ∙ ap (λ l. 34 ∷ l) (sym (append_assoc (spelling sofar.items) (34 ∷ []) (drop 1 (drop at text))))) i))
    ∙ ap (λ l. 34 ∷ l) (take-append_seam (spelling sofar.items ++ 34 ∷ []) (drop 1 (drop at text))) in
    record {
      some = omega arith;
      within = omega (arith, long);
      is = (sofar.items, sofar.all, front_is, sofar.values);
      only = λ m v within is.
          let p = text_rest text value v at m sofar within is in
          let last : p.0 ≡ [] = none_more p.0 (drop m text) (drop at text) p.1 p.2 (ap item_at (sym is_front) ∙ none) in
          let same : sofar.items ++ p.0 ≡ sofar.items = ap (λ l. sofar.items ++ l) last ∙ append-nil sofar.items in
          (omega (arith, p.4, ap (λ l. length (spelling l)) same, place, size), p.3 ∙ ap values same ∙ sym sofar.values);
    }

-- `&xs[i..]`
pub range_from : (xs : List ℕ) (i : ℕ) → take (length xs - i) (drop i xs) ≡ drop i xs
range_from xs i = ap (λ k. take k (drop i xs)) (sym (length-drop i xs)) ∙ take-length (drop i xs)

-- Selection level by level finds what the least depth over all ways has.
use Rattle.std.proofs.Common.{◌≡◌, ℕ, zero, suc, Bool, true, false, List, [], ◌∷◌, ◌++◌, refl, ap, sym, ◌∙◌, subst, ◌⊎◌, inl, inr, append_assoc, append-nil}
use Rattle.std.specs.Prelude.{if◌then◌else◌}
use Rattle.gs_terms.specs.declared.symbol.Symbol.{Symbol}
use Rattle.gs_terms.specs.Term.{Term, Fields, named, no_fields, a_field}
use Rattle.gs_ask.specs.declared.select.Selected.{Selected}
use Rattle.gs_ask.specs.declared.select.Selected.TheVariants as selected
use Rattle.gs_ask.specs.Reply.{Sigs}
use Rattle.gs_ask.specs.Members.{Member, Reached, Hit, Opened, opened, own_members, hits_of, hits, base, embedded, fields_in, further}
use Rattle.gs_ask.specs.Selection.{bears, bearing, chosen, least}
use Rattle.gs_ask.specs.Levels.{opened_all, level_hits, next_level, with_names, is_met, fresh, first_level}
use Rattle.gs_ask.proofs.Quiet.{Told, told, stuck, value, andthen, value_bind}
use Rattle.gs_ask.proofs.Twice.{Once, Twice, once_left, once_right, once_last, twice_left, twice_both, twice_last, twice_once}
use Rattle.gs_ask.proofs.Ways.{types, AllIn, look, at, Ready, AllReady, opened_list, hits_all, further_all, hits_listed, further_listed, ready_or_stuck, opened_told, opened_stuck_first, opened_stuck_rest, level_cases, choose, value_chosen, by_level, by_level_ready, by_level_stuck, least_by_level}
use Rattle.gs_ask.proofs.Thinned.{Thin, all_map, thin_trans, thin_covers, met_before, fresh_thin}

-- ---- lists of types

all_left : (P : Term → Type 0) (bs ds : List Term) → AllIn P (bs ++ ds) → AllIn P bs
all_left P [] ds h = tt
all_left P (b ∷ bs) ds h = (h.0, all_left P bs ds h.1)

all_right : (P : Term → Type 0) (bs ds : List Term) → AllIn P (bs ++ ds) → AllIn P ds
all_right P [] ds h = h
all_right P (b ∷ bs) ds h = all_right P bs ds h.1

all_once : (bs : List Term) → AllIn (Once bs) bs
all_once [] = tt
all_once (b ∷ bs) = (inl refl, all_map (Once bs) (Once (b ∷ bs)) (λ c h. inr h) bs (all_once bs))

types-append : (rs qs : List Reached) → types (rs ++ qs) ≡ types rs ++ types qs
types-append [] qs = refl
types-append (r ∷ rs) qs = ap (λ (l : List Term). r.type ∷ l) (types-append rs qs)

-- the types of the embedded fields, whatever the way
abbrev pub kid_types : Fields → List Term
kid_types no_fields = []
kid_types (a_field x q true g t p fs) = base t ∷ kid_types fs
kid_types (a_field x q false g t p fs) = kid_types fs

embedded_types : (through : Bool) (fs : Fields) → types (embedded through fs) ≡ kid_types fs
embedded_types through no_fields = refl
embedded_types through (a_field x q true g t p fs) = ap (λ (l : List Term). base t ∷ l) (embedded_types through fs)
embedded_types through (a_field x q false g t p fs) = embedded_types through fs

-- ---- members of a name

bearing-append : (x q : List ℕ) (hs is : List Hit) → bearing x q (hs ++ is) ≡ bearing x q hs ++ bearing x q is
bearing-append x q [] is = refl
bearing-append x q (h ∷ hs) is = elim (bears x q h.member) as (λ b. (if b then h ∷ bearing x q (hs ++ is) else bearing x q (hs ++ is)) ≡ (if b then h ∷ bearing x q hs else bearing x q hs) ++ bearing x q is) [
  | true ↦ ap (λ (l : List Hit). h ∷ l) (bearing-append x q hs is)
  | false ↦ bearing-append x q hs is
]

-- whether there is one does not depend on the way
none_by_way : (x q : List ℕ) (b c : Bool) (ms : List Member) → bearing x q (hits_of b ms) ≡ [] → bearing x q (hits_of c ms) ≡ []
none_by_way x q b c [] h = refl
none_by_way x q b c (y ∷ ms) h = by_test (bears x q y) h (none_by_way x q b c ms) where
  by_test : (d : Bool) → (if d then (record { member = y; through = b }) ∷ bearing x q (hits_of b ms) else bearing x q (hits_of b ms)) ≡ [] → (bearing x q (hits_of b ms) ≡ [] → bearing x q (hits_of c ms) ≡ [])
      → (if d then (record { member = y; through = c }) ∷ bearing x q (hits_of c ms) else bearing x q (hits_of c ms)) ≡ []
  by_test true h go = absurd (cc)
  by_test false h go = go h

abbrev One : List Hit → Type 0
One [] = ⊥
One (h ∷ hs) = Unit {0}

abbrev Two : List Hit → Type 0
Two [] = ⊥
Two (h ∷ hs) = One hs

one_left : (hs is : List Hit) → One hs → One (hs ++ is)
one_left [] is h = absurd h
one_left (h ∷ hs) is k = tt

two_left : (hs is : List Hit) → Two hs → Two (hs ++ is)
two_left [] is h = absurd h
two_left (h ∷ hs) is k = one_left hs is k

one_right : (hs is : List Hit) → One is → One (hs ++ is)
one_right [] is h = h
one_right (h ∷ hs) is k = tt

two_both : (hs is : List Hit) → One hs → One is → Two (hs ++ is)
two_both [] is h k = absurd h
two_both (h ∷ hs) is i k = one_right hs is k

none_or_one : (hs : List Hit) → (hs ≡ []) ⊎ One hs
none_or_one [] = inl refl
none_or_one (h ∷ hs) = inr tt

nil_left : (hs is : List Hit) → hs ++ is ≡ [] → hs ≡ []
nil_left [] is h = refl
nil_left (h ∷ hs) is k = absurd (cc)

nil_right : (hs is : List Hit) → hs ++ is ≡ [] → is ≡ []
nil_right [] is h = h
nil_right (h ∷ hs) is k = absurd (cc)

module _ (N L : Type 0) (m : Sigs) (n : ℕ) (x q : List ℕ) where
  abbrev pick : Told Symbol Selected → List Hit → Told Symbol Selected
  pick = choose N L m n x q

  pick_two : (o : Told Symbol Selected) (hs is : List Hit) → Two hs → pick o (hs ++ is) ≡ told selected.Two
  unfolding choose
  pick_two o [] is h = absurd h
  pick_two o (h ∷ []) is k = absurd k
  pick_two o (h ∷ i ∷ hs) is k = refl

  pick_same : (hs : List Hit) (o p : Told Symbol Selected) → (hs ≡ [] → o ≡ p) → pick o hs ≡ pick p hs
  unfolding choose
  pick_same [] o p h = h refl
  pick_same (i ∷ []) o p h = refl
  pick_same (i ∷ j ∷ hs) o p h = refl

  -- ---- what a type has

  abbrev pub kids : Term → List Term
  kids t = kid_types (fields_in (at N L m n t).under)

  further_types : (r : Reached) → types (further r (at N L m n r.type)) ≡ kids r.type
  further_types r = embedded_types r.through (fields_in (at N L m n r.type).under)

  -- it has no member of the name
  abbrev None : Term → Type 0
  None t = (through : Bool) → bearing x q (hits_of through (own_members (at N L m n t))) ≡ []

  abbrev own : Reached → List Hit
  own r = bearing x q (hits r (at N L m n r.type))

  abbrev pub inside : List Reached → List Reached
  inside = further_all N L m n

  abbrev borne : List Reached → List Hit
  borne rs = bearing x q (hits_all N L m n rs)

  borne-cons : (r : Reached) (rs : List Reached) → borne (r ∷ rs) ≡ own r ++ borne rs
  borne-cons r rs = bearing-append x q (hits r (at N L m n r.type)) (hits_all N L m n rs)

  -- ---- a thinned level is told where the whole one is

  ready_same : (t c : Term) → t ≡ c → Ready N L m n t → Ready N L m n c
  ready_same t c e h = let P : Term → Type 0 = Ready N L m n in subst P e h

  once_ready : (bs : List Term) (c : Term) → AllIn (Ready N L m n) bs → Once bs c → Ready N L m n c
  once_ready [] c h k = absurd k
  once_ready (b ∷ bs) c h (inl e) = ready_same b c e h.0
  once_ready (b ∷ bs) c h (inr k) = once_ready bs c h.1 k

  all_last : (P : Term → Type 0) (bs : List Term) (t : Term) → AllIn P bs → P t → AllIn P (bs ++ t ∷ [])
  all_last P [] t h k = (k, tt)
  all_last P (b ∷ bs) t h k = (h.0, all_last P bs t h.1 k)

  module _ (H : Term → Type 0) where
    out_ready : (bs : List Term) (c : Term) → ((t : Term) → H t → Ready N L m n t) → AllIn (Ready N L m n) bs → H c ⊎ Twice bs c → Ready N L m n c
    out_ready bs c go h (inl k) = go c k
    out_ready bs c go h (inr k) = once_ready bs c h (twice_once bs c k)

    pub thin_ready : (bs : List Term) (ls ts : List Reached) → ((t : Term) → H t → Ready N L m n t) → AllIn (Ready N L m n) bs → Thin H bs ls ts → AllReady N L m n ls → AllReady N L m n ts
    thin_ready bs ls [] go h k i = tt
    thin_ready bs ls (t ∷ ts) go h (inl k) i = (out_ready bs t.type go h k.0, thin_ready bs ls ts go h k.1 i)
    thin_ready bs ls (t ∷ ts) go h (inr k) i =
        let both : AllReady N L m n (t ∷ k.0) = (let P : List Reached → Type 0 = AllReady N L m n in subst P k.1 i) in
        (both.0, thin_ready (bs ++ t.type ∷ []) k.0 ts go (all_last (Ready N L m n) bs t.type h both.0) k.2 both.1)

    pub thin_waits : (bs : List Term) (ls ts : List Reached) (s : Symbol) → ((t : Term) → H t → Ready N L m n t) → AllIn (Ready N L m n) bs → Thin H bs ls ts
        → look N L m n (opened_all n ls) ≡ stuck s → look N L m n (opened_all n ts) ≡ stuck s
    thin_waits bs ls [] s go h k w = ap (λ l. look N L m n (opened_all n l)) (sym k) ∙ w
    thin_waits bs ls (t ∷ ts) s go h (inl k) w = opened_stuck_rest N L m n t ts s (out_ready bs t.type go h k.0) (thin_waits bs ls ts s go h k.1 w)
    thin_waits bs ls (t ∷ ts) s go h (inr k) w = by_first (ready_or_stuck N L m n t.type) (λ ok. thin_waits (bs ++ t.type ∷ []) k.0 ts s go (all_last (Ready N L m n) bs t.type h ok) k.2) where
      waits : look N L m n (opened_all n (t ∷ k.0)) ≡ stuck s
      waits = ap (λ l. look N L m n (opened_all n l)) (sym k.1) ∙ w

      rest_waits : Ready N L m n t.type → AllReady N L m n k.0 ⊎ ((z : Symbol) × (look N L m n (opened_all n k.0) ≡ stuck z)) → look N L m n (opened_all n k.0) ≡ stuck s
      rest_waits ok (inl all) = absurd (let e = opened_told N L m n (t ∷ k.0) (ok, all) in let f = waits in (cc))
      rest_waits ok (inr z) = let e = opened_stuck_rest N L m n t k.0 z.0 ok z.1 in z.1 ∙ (sym e ∙ waits)

      by_first : Ready N L m n t.type ⊎ ((z : Symbol) × (look N L m n (opened n t.type) ≡ stuck z)) → (Ready N L m n t.type → look N L m n (opened_all n k.0) ≡ stuck s → look N L m n (opened_all n ts) ≡ stuck s)
          → look N L m n (opened_all n (t ∷ ts)) ≡ stuck s
      by_first (inl ok) ih = opened_stuck_rest N L m n t ts s ok (ih ok (rest_waits ok (level_cases N L m n k.0)))
      by_first (inr z) ih = opened_stuck_first N L m n t ts z.0 z.1 ∙ (sym (opened_stuck_first N L m n t k.0 z.0 z.1) ∙ waits)

    -- ---- a thinned level has what the whole one has

    -- what was found in types that stand before
    record Found (bs : List Term) (hs : List Hit) : Type 0 where
      once : (c : Term) → Once bs c → None c ⊎ One hs
      twice : (c : Term) → Twice bs c → None c ⊎ Two hs

    none_of : (r : Reached) (c : Term) → r.type ≡ c → own r ≡ [] → None c
    none_of r c e h = let P : Term → Type 0 = None in subst P e (λ b. none_by_way x q r.through b (own_members (at N L m n r.type)) h)

    found_more : (bs : List Term) (hs : List Hit) (r : Reached) → Found bs hs → Found (bs ++ r.type ∷ []) (hs ++ own r)
    found_more bs hs r h = record { once = λ c k. by_once c (once_last bs r.type c k) (none_or_one (own r)); twice = λ c k. by_twice c (twice_last bs r.type c k) (none_or_one (own r)) } where
      more_one : (c : Term) → None c ⊎ One hs → None c ⊎ One (hs ++ own r)
      more_one c (inl k) = inl k
      more_one c (inr k) = inr (one_left hs (own r) k)

      more_two : (c : Term) → None c ⊎ Two hs → None c ⊎ Two (hs ++ own r)
      more_two c (inl k) = inl k
      more_two c (inr k) = inr (two_left hs (own r) k)

      one_more : (c : Term) → One (own r) → None c ⊎ One hs → None c ⊎ Two (hs ++ own r)
      one_more c i (inl k) = inl k
      one_more c i (inr k) = inr (two_both hs (own r) k i)

      by_once : (c : Term) → Once bs c ⊎ (r.type ≡ c) → (own r ≡ []) ⊎ One (own r) → None c ⊎ One (hs ++ own r)
      by_once c (inl k) i = more_one c (h.once c k)
      by_once c (inr e) (inl i) = inl (none_of r c e i)
      by_once c (inr e) (inr i) = inr (one_right hs (own r) i)

      by_twice : (c : Term) → Twice bs c ⊎ (Once bs c × (r.type ≡ c)) → (own r ≡ []) ⊎ One (own r) → None c ⊎ Two (hs ++ own r)
      by_twice c (inl k) i = more_two c (h.twice c k)
      by_twice c (inr k) (inl i) = inl (none_of r c k.1 i)
      by_twice c (inr k) (inr i) = one_more c i (h.once c k.0)

    thin_hits_from : (bs : List Term) (hs : List Hit) (ls ts : List Reached) → ((t : Term) → H t → None t) → Found bs hs → Thin H bs ls ts → (o : Told Symbol Selected) → pick o (hs ++ borne ls) ≡ pick o (hs ++ borne ts)
    thin_hits_from bs hs ls [] go h k o = ap (λ l. pick o (hs ++ borne l)) k
    thin_hits_from bs hs ls (t ∷ ts) go h (inl k) o = by_out (out k.0) (thin_hits_from bs hs ls ts go h k.1 o) where
      out : H t.type ⊎ Twice bs t.type → None t.type ⊎ Two hs
      out (inl i) = inl (go t.type i)
      out (inr i) = h.twice t.type i

      by_out : None t.type ⊎ Two hs → pick o (hs ++ borne ls) ≡ pick o (hs ++ borne ts) → pick o (hs ++ borne ls) ≡ pick o (hs ++ borne (t ∷ ts))
      by_out (inl i) ih = ih ∙ ap (λ l. pick o (hs ++ l)) (sym (borne-cons t ts ∙ ap (λ l. l ++ borne ts) (i t.through)))
      by_out (inr i) ih = pick_two o hs (borne ls) i ∙ sym (pick_two o hs (borne (t ∷ ts)) i)
    thin_hits_from bs hs ls (t ∷ ts) go h (inr k) o =
        ap (λ l. pick o (hs ++ borne l)) k.1
        ∙ ap (λ l. pick o (hs ++ l)) (borne-cons t k.0) ∙ ap (λ l. pick o l) (sym (append_assoc hs (own t) (borne k.0)))
        ∙ thin_hits_from (bs ++ t.type ∷ []) (hs ++ own t) k.0 ts go (found_more bs hs t h) k.2 o
        ∙ ap (λ l. pick o l) (append_assoc hs (own t) (borne ts)) ∙ ap (λ l. pick o (hs ++ l)) (sym (borne-cons t ts))

    thin_hits : (ls ts : List Reached) → ((t : Term) → H t → None t) → Thin H [] ls ts → (o : Told Symbol Selected) → pick o (borne ls) ≡ pick o (borne ts)
    thin_hits ls ts go k o = thin_hits_from [] [] ls ts go (record { once = λ c h. absurd h; twice = λ c h. absurd h }) k o

  -- ---- the next level

  -- each of them is left out
  thin_drop : (G : Term → Type 0) (bs : List Term) (as' ls ts : List Reached) → AllIn (λ c. G c ⊎ Twice bs c) (types as') → Thin G bs ls ts → Thin G bs ls (as' ++ ts)
  thin_drop G bs [] ls ts h k = k
  thin_drop G bs (a ∷ as') ls ts h k = inl (h.0, thin_drop G bs as' ls ts h.1 k)

  -- each of them is kept
  thin_keep : (G : Term → Type 0) (bs : List Term) (as' ls ts : List Reached) → Thin G (bs ++ types as') ls ts → Thin G bs (as' ++ ls) (as' ++ ts)
  thin_keep G bs [] ls ts k = let P : List Term → Type 0 = λ b. Thin G b ls ts in subst P (append-nil bs) k
  thin_keep G bs (a ∷ as') ls ts k =
      inr (as' ++ ls, refl, thin_keep G (bs ++ a.type ∷ []) as' ls ts (let P : List Term → Type 0 = λ b. Thin G b ls ts in subst P (sym (append_assoc bs (a.type ∷ []) (types as'))) k))

  module _ (H G : Term → Type 0) (kin : (t : Term) → H t → AllIn G (kids t)) where
    -- the embedded types of types that stand before
    record Bred (bs ds : List Term) : Type 0 where
      once : (c : Term) → Once bs c → AllIn (Once ds) (kids c)
      twice : (c : Term) → Twice bs c → AllIn (Twice ds) (kids c)

    both_in : (ds es ks : List Term) → AllIn (Once ds) ks → AllIn (Once es) ks → AllIn (Twice (ds ++ es)) ks
    both_in ds es [] h k = tt
    both_in ds es (c ∷ ks) h k = (twice_both ds es c h.0 k.0, both_in ds es ks h.1 k.1)

    bred_more : (bs ds : List Term) (t : Term) → Bred bs ds → Bred (bs ++ t ∷ []) (ds ++ kids t)
    bred_more bs ds t h = record { once = λ c k. by_once c (once_last bs t c k); twice = λ c k. by_twice c (twice_last bs t c k) } where
      own_kids : (c : Term) → t ≡ c → AllIn (Once (kids t)) (kids c)
      own_kids c e = let P : Term → Type 0 = λ z. AllIn (Once (kids t)) (kids z) in subst P e (all_once (kids t))

      by_once : (c : Term) → Once bs c ⊎ (t ≡ c) → AllIn (Once (ds ++ kids t)) (kids c)
      by_once c (inl k) = all_map (Once ds) (Once (ds ++ kids t)) (λ z. once_left ds (kids t) z) (kids c) (h.once c k)
      by_once c (inr e) = all_map (Once (kids t)) (Once (ds ++ kids t)) (λ z. once_right ds (kids t) z) (kids c) (own_kids c e)

      by_twice : (c : Term) → Twice bs c ⊎ (Once bs c × (t ≡ c)) → AllIn (Twice (ds ++ kids t)) (kids c)
      by_twice c (inl k) = all_map (Twice ds) (Twice (ds ++ kids t)) (λ z. twice_left ds (kids t) z) (kids c) (h.twice c k)
      by_twice c (inr k) = both_in ds (kids t) (kids c) (h.once c k.0) (own_kids c k.1)

    thin_inside_from : (bs ds : List Term) (ls ts : List Reached) → Bred bs ds → Thin H bs ls ts → Thin G ds (inside ls) (inside ts)
    thin_inside_from bs ds ls [] h k = ap inside k
    thin_inside_from bs ds ls (t ∷ ts) h (inl k) = thin_drop G ds (further t (at N L m n t.type)) (inside ls) (inside ts) out (thin_inside_from bs ds ls ts h k.1) where
      kids_out : H t.type ⊎ Twice bs t.type → AllIn (λ c. G c ⊎ Twice ds c) (kids t.type)
      kids_out (inl i) = all_map G (λ c. G c ⊎ Twice ds c) (λ c g. inl g) (kids t.type) (kin t.type i)
      kids_out (inr i) = all_map (Twice ds) (λ c. G c ⊎ Twice ds c) (λ c g. inr g) (kids t.type) (h.twice t.type i)

      out : AllIn (λ c. G c ⊎ Twice ds c) (types (further t (at N L m n t.type)))
      out = let P : List Term → Type 0 = λ l. AllIn (λ c. G c ⊎ Twice ds c) l in subst P (sym (further_types t)) (kids_out k.0)
    thin_inside_from bs ds ls (t ∷ ts) h (inr k) =
        let P : List Reached → Type 0 = λ l. Thin G ds l (inside (t ∷ ts)) in
        let Q : List Term → Type 0 = λ l. Thin G (ds ++ l) (inside k.0) (inside ts) in
        subst P (ap inside (sym k.1)) (thin_keep G ds (further t (at N L m n t.type)) (inside k.0) (inside ts)
        (subst Q (sym (further_types t)) (thin_inside_from (bs ++ t.type ∷ []) (ds ++ kids t.type) k.0 ts (bred_more bs ds t.type h) k.2)))

    pub thin_inside : (ls ts : List Reached) → Thin H [] ls ts → Thin G [] (inside ls) (inside ts)
    thin_inside ls ts k = thin_inside_from [] [] ls ts (record { once = λ c h. absurd h; twice = λ c h. absurd h }) k

  -- ---- levels one after another

  -- The type was opened and has no member of the name, and its embedded types are of H or stand in the level.
  record Searched (H : Term → Type 0) (level : List Term) (t : Term) : Type 0 where
    ready : Ready N L m n t
    none : None t
    kids_in : AllIn (λ c. H c ⊎ Once level c) (kids t)

  pub once_all_ready : (rs : List Reached) (c : Term) → AllReady N L m n rs → Once (types rs) c → Ready N L m n c
  once_all_ready [] c h k = absurd k
  once_all_ready (r ∷ rs) c h (inl e) = ready_same r.type c e h.0
  once_all_ready (r ∷ rs) c h (inr k) = once_all_ready rs c h.1 k

  once_none : (rs : List Reached) (c : Term) → borne rs ≡ [] → Once (types rs) c → None c
  once_none [] c h k = absurd k
  once_none (r ∷ rs) c h (inl e) = none_of (λ z. ⊥) r c e (nil_left (own r) (borne rs) (sym (borne-cons r rs) ∙ h))
  once_none (r ∷ rs) c h (inr k) = once_none rs c (nil_right (own r) (borne rs) (sym (borne-cons r rs) ∙ h)) k

  pub once_kids : (P : Term → Type 0) (rs : List Reached) (c : Term) → AllIn P (types (inside rs)) → Once (types rs) c → AllIn P (kids c)
  once_kids P [] c h k = absurd k
  once_kids P (r ∷ rs) c h k = by_place (let Q : List Term → Type 0 = λ l. AllIn P l in subst Q (types-append (further r (at N L m n r.type)) (inside rs)) h) (λ all i. once_kids P rs c all i) k where
    by_place : AllIn P (types (further r (at N L m n r.type)) ++ types (inside rs)) → (AllIn P (types (inside rs)) → Once (types rs) c → AllIn P (kids c)) → (r.type ≡ c) ⊎ Once (types rs) c → AllIn P (kids c)
    by_place h go (inl e) =
        let Q : List Term → Type 0 = λ l. AllIn P l in
        let T : Term → Type 0 = λ z. AllIn P (kids z) in
        subst T e (subst Q (further_types r) (all_left P (types (further r (at N L m n r.type))) (types (inside rs)) h))
    by_place h go (inr k) = go (all_right P (types (further r (at N L m n r.type))) (types (inside rs)) h) k

  -- what was met up to this level
  abbrev Next : (Term → Type 0) → List Reached → Term → Type 0
  Next H ls c = H c ⊎ Once (types ls) c

  -- The levels without what is left out give what all levels give.
  abbrev Holds : ℕ → Type 1
  Holds k = (H : Term → Type 0) (qs : List Symbol) (ls ts : List Reached) → ((t : Term) → H t → Searched H (types ls) t) → ((c : Term) → is_met qs c ≡ true → H c) → Thin H [] ls ts
      → by_level N L m n x q k ts ≡ look N L m n (first_level n x q k qs ls)

  first_value : (k : ℕ) (qs : List Symbol) (ls : List Reached) → AllReady N L m n ls
      → look N L m n (first_level n x q (suc k) qs ls) ≡ pick (look N L m n (first_level n x q k (with_names ls qs) (fresh (with_names ls qs) [] (inside ls)))) (borne ls)
  unfolding first_level
  first_value k qs ls h =
      value_bind m (opened_all n ls) _
      ∙ ap (λ (o : Told Symbol (List Opened)). andthen o (λ os. look N L m n (chosen (first_level n x q k (with_names ls qs) (fresh (with_names ls qs) [] (next_level ls os))) (bearing x q (level_hits ls os))))) (opened_told N L m n ls h)
      ∙ value_chosen N L m n x q (first_level n x q k (with_names ls qs) (fresh (with_names ls qs) [] (next_level ls (opened_list N L m n ls)))) (bearing x q (level_hits ls (opened_list N L m n ls)))
      ∙ ap (λ (l : List Reached). pick (look N L m n (first_level n x q k (with_names ls qs) (fresh (with_names ls qs) [] l))) (bearing x q (level_hits ls (opened_list N L m n ls)))) (further_listed N L m n ls)
      ∙ ap (λ (l : List Hit). pick (look N L m n (first_level n x q k (with_names ls qs) (fresh (with_names ls qs) [] (inside ls)))) (bearing x q l)) (hits_listed N L m n ls)

  first_stuck : (k : ℕ) (qs : List Symbol) (ls : List Reached) (s : Symbol) → look N L m n (opened_all n ls) ≡ stuck s → look N L m n (first_level n x q (suc k) qs ls) ≡ stuck s
  unfolding first_level
  first_stuck k qs ls s h =
      value_bind m (opened_all n ls) _
      ∙ ap (λ (o : Told Symbol (List Opened)). andthen o (λ os. look N L m n (chosen (first_level n x q k (with_names ls qs) (fresh (with_names ls qs) [] (next_level ls os))) (bearing x q (level_hits ls os))))) h

  thin_levels : (k : ℕ) → Holds k
  unfolding by_level first_level value
  thin_levels zero H qs ls ts searched old thin = refl
  thin_levels (suc k) H qs ls ts searched old thin = by_case (thin_levels k) (level_cases N L m n ls) where
    met : (c : Term) → is_met (with_names ls qs) c ≡ true → Next H ls c
    met = met_before H qs old ls

    fresh_in : AllIn (λ c. Next H ls c ⊎ Once (types (fresh (with_names ls qs) [] (inside ls))) c) (types (inside ls))
    fresh_in = thin_covers (Next H ls) [] (fresh (with_names ls qs) [] (inside ls)) (inside ls) (fresh_thin (Next H ls) (with_names ls qs) met (inside ls))

    searched' : AllReady N L m n ls → borne ls ≡ [] → (t : Term) → Next H ls t → Searched (Next H ls) (types (fresh (with_names ls qs) [] (inside ls))) t
    searched' ok none t (inl h) =
        let s = searched t h in
        record { ready = s.ready; none = s.none; kids_in = all_map (Next H ls) (λ c. Next H ls c ⊎ Once (types (fresh (with_names ls qs) [] (inside ls))) c) (λ c i. inl i) (kids t) s.kids_in }
    searched' ok none t (inr h) = record {
      ready = once_all_ready ls t ok h;
      none = once_none ls t none h;
      kids_in = once_kids (λ c. Next H ls c ⊎ Once (types (fresh (with_names ls qs) [] (inside ls))) c) ls t fresh_in h;
    }

    thin' : Thin (Next H ls) [] (fresh (with_names ls qs) [] (inside ls)) (inside ts)
    thin' = thin_trans (Next H ls) (fresh (with_names ls qs) [] (inside ls)) (inside ls) (inside ts)
        (fresh_thin (Next H ls) (with_names ls qs) met (inside ls)) (thin_inside H (Next H ls) (λ t h. (searched t h).kids_in) ls ts thin)

    go_on : Holds k → AllReady N L m n ls → borne ls ≡ [] → by_level N L m n x q k (inside ts) ≡ look N L m n (first_level n x q k (with_names ls qs) (fresh (with_names ls qs) [] (inside ls)))
    go_on ih ok none = ih (Next H ls) (with_names ls qs) (fresh (with_names ls qs) [] (inside ls)) (inside ts) (searched' ok none) met thin'

    by_case : Holds k → AllReady N L m n ls ⊎ ((s : Symbol) × (look N L m n (opened_all n ls) ≡ stuck s)) → by_level N L m n x q (suc k) ts ≡ look N L m n (first_level n x q (suc k) qs ls)
    by_case ih (inl ok) =
        by_level_ready N L m n x q k ts (thin_ready H [] ls ts (λ t h. (searched t h).ready) tt thin ok)
        ∙ sym (thin_hits H ls ts (λ t h. (searched t h).none) thin (by_level N L m n x q k (inside ts)))
        ∙ pick_same (borne ls) (by_level N L m n x q k (inside ts)) (look N L m n (first_level n x q k (with_names ls qs) (fresh (with_names ls qs) [] (inside ls)))) (go_on ih ok)
        ∙ sym (first_value k qs ls ok)
    by_case ih (inr w) =
        by_level_stuck N L m n x q k ts w.0 (thin_waits H [] ls ts w.0 (λ t h. (searched t h).ready) tt thin w.1)
        ∙ sym (first_stuck k qs ls w.0 w.1)

  pub thin_refl : (H : Term → Type 0) (bs : List Term) (ls : List Reached) → Thin H bs ls ls
  thin_refl H bs [] = refl
  thin_refl H bs (r ∷ ls) = inr (ls, refl, thin_refl H (bs ++ r.type ∷ []) ls)

  -- what the least depth over all ways has is found level by level
  pub least_is_first : (k : ℕ) (rs : List Reached) → look N L m n (least n x q 0 k rs) ≡ look N L m n (first_level n x q k [] rs)
  least_is_first k rs = least_by_level N L m n x q k rs ∙ thin_levels k (λ c. ⊥) [] rs rs (λ t h. absurd h) unmet (thin_refl (λ c. ⊥) [] rs) where
    unmet : (c : Term) → is_met [] c ≡ true → ⊥
    unmet (named s) h = (cc)
    unmet _ h = (cc)

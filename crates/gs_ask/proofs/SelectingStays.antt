-- Underlying types, selection and method sets ask for names that stand in the type, or in the descriptions of such names.
use Rattle.std.proofs.Common.{ℕ, zero, suc, ◌+◌, Bool, true, false, List, [], ◌∷◌, ◌++◌, map}
use Rattle.std.specs.Prelude.{if◌then◌else◌, ◌||◌, ◌&&◌, not, bytes_eq}
use Rattle.gs_terms.specs.declared.symbol.Symbol.{Symbol}
use Rattle.gs_terms.specs.declared.term.Method.{Method}
use Rattle.gs_terms.specs.Term.{Term, Fields, Methods, invalid, named, pointer, struct, interface, no_fields, a_field, no_methods, a_method}
use Rattle.gs_ask.specs.declared.select.Selected.{Selected}
use Rattle.gs_ask.specs.declared.select.Selected.TheVariants as selected
use Rattle.gs_ask.specs.Ask.{ask, done}
use Rattle.gs_ask.specs.Stays.{Stays, EachIn, IsClosed}
use Rattle.gs_ask.specs.Reply.{Reply, known, absent, broken, Sigs, Rule}
use Rattle.gs_ask.specs.Symbols.{has_symbol, is_error, symbols_of, fields_symbols, methods_symbols, declared_symbols, reply_symbols}
use Rattle.gs_ask.specs.NamesIn.{TermIn, MethodsIn, SelectedIn}
use Rattle.gs_terms.specs.Universe.{error_sig}
use Rattle.gs_ask.specs.Under.{furthest, described, under_by, under_from, underlying}
use Rattle.gs_ask.specs.Members.{Member, a_field_of, a_method_of, Reached, Hit, Opened, opened, opened_by, field_list, method_list, inside, own_members, hits_of, hits, base, embedded, fields_in, further, each, members_at, Start, behind_by, behind, start_by, start}
use Rattle.gs_ask.specs.Selection.{bears, bearing, one_by, chosen, least, kept, selection}
use Rattle.gs_ask.specs.MethodSets.{Id, selected_in, picked, in_set, methods_of, ids_of, depths, method_set}
use Rattle.gs_ask.proofs.Stays.{stays_bind, each_in-append, each_in-left, each_in-right}

module _ (K : Symbol → Type 0) where
  abbrev pub MemberIn : Member → Type 0
  MemberIn (a_field_of f) = TermIn K f.term
  MemberIn (a_method_of m) = TermIn K m.term

  abbrev pub MembersIn : List Member → Type 0
  MembersIn [] = Unit {0}
  MembersIn (x ∷ xs) = MemberIn x × MembersIn xs

  abbrev pub HitsIn : List Hit → Type 0
  HitsIn [] = Unit {0}
  HitsIn (h ∷ hs) = MemberIn h.member × HitsIn hs

  abbrev pub LevelsIn : List (List Hit) → Type 0
  LevelsIn [] = Unit {0}
  LevelsIn (hs ∷ all) = HitsIn hs × LevelsIn all

  abbrev pub AllReachedIn : List Reached → Type 0
  AllReachedIn [] = Unit {0}
  AllReachedIn (r ∷ rs) = TermIn K r.type × AllReachedIn rs

  abbrev pub OpenedIn : Opened → Type 0
  OpenedIn o = MethodsIn K o.methods × TermIn K o.under

  abbrev pub StartIn : Start → Type 0
  StartIn s = AllReachedIn s.from

  members_in-append : (xs ys : List Member) → MembersIn xs → MembersIn ys → MembersIn (xs ++ ys)
  members_in-append [] ys h k = k
  members_in-append (x ∷ xs) ys h k = (h.0, members_in-append xs ys h.1 k)

  hits_in-append : (xs ys : List Hit) → HitsIn xs → HitsIn ys → HitsIn (xs ++ ys)
  hits_in-append [] ys h k = k
  hits_in-append (x ∷ xs) ys h k = (h.0, hits_in-append xs ys h.1 k)

  declared_in : (ms : List Method) → MethodsIn K ms → MembersIn (map a_method_of ms)
  declared_in [] h = tt
  declared_in (m ∷ ms) h = (each_in-left K (symbols_of m.term) (declared_symbols ms) h, declared_in ms (each_in-right K (symbols_of m.term) (declared_symbols ms) h))

  fields_in_in : (fs : Fields) → EachIn K (fields_symbols fs) → MembersIn (map a_field_of (field_list fs))
  fields_in_in no_fields h = tt
  fields_in_in (a_field x q e g t p fs) h = (each_in-left K (symbols_of t) (fields_symbols fs) h, fields_in_in fs (each_in-right K (symbols_of t) (fields_symbols fs) h))

  methods_in_in : (ms : Methods) → EachIn K (methods_symbols ms) → MembersIn (map a_method_of (method_list ms))
  methods_in_in no_methods h = tt
  methods_in_in (a_method x q r t p d ms) h = (each_in-left K (symbols_of t) (methods_symbols ms) h, methods_in_in ms (each_in-right K (symbols_of t) (methods_symbols ms) h))

  inside_in : (t : Term) → TermIn K t → MembersIn (inside t)
  inside_in (struct fs) h = fields_in_in fs h
  inside_in (interface ms) h = methods_in_in ms h
  inside_in _ h = tt

  hits_of_in : (through : Bool) (xs : List Member) → MembersIn xs → HitsIn (hits_of through xs)
  hits_of_in through [] h = tt
  hits_of_in through (x ∷ xs) h = (h.0, hits_of_in through xs h.1)

  hits_in : (r : Reached) (o : Opened) → OpenedIn o → HitsIn (hits r o)
  hits_in r o h = hits_of_in r.through (own_members o) (members_in-append (map a_method_of o.methods) (inside o.under) (declared_in o.methods h.0) (inside_in o.under h.1))

  base_in : (t : Term) → TermIn K t → TermIn K (base t)
  base_in (pointer t) h = h
  base_in _ h = h

  embedded_in : (through : Bool) (fs : Fields) → EachIn K (fields_symbols fs) → AllReachedIn (embedded through fs)
  embedded_in through no_fields h = tt
  embedded_in through (a_field x q true g t p fs) h =
      (base_in t (each_in-left K (symbols_of t) (fields_symbols fs) h), embedded_in through fs (each_in-right K (symbols_of t) (fields_symbols fs) h))
  embedded_in through (a_field x q false g t p fs) h = embedded_in through fs (each_in-right K (symbols_of t) (fields_symbols fs) h)

  fields_of_in : (t : Term) → TermIn K t → EachIn K (fields_symbols (fields_in t))
  fields_of_in (struct fs) h = h
  fields_of_in _ h = tt

  further_in : (r : Reached) (o : Opened) → OpenedIn o → AllReachedIn (further r o)
  further_in r o h = embedded_in r.through (fields_in o.under) (fields_of_in o.under h.1)

  bearing_in : (x q : List ℕ) (hs : List Hit) → HitsIn hs → HitsIn (bearing x q hs)
  bearing_in x q [] h = tt
  bearing_in x q (i ∷ hs) h = elim (bears x q i.member) as (λ b. HitsIn (if b then i ∷ bearing x q hs else bearing x q hs)) [
    | true ↦ (h.0, bearing_in x q hs h.1)
    | false ↦ bearing_in x q hs h.1
  ]

  one_by_in : (through : Bool) (x : Member) → MemberIn x → SelectedIn K (one_by through x)
  one_by_in through (a_field_of f) h = h
  one_by_in through (a_method_of m) h = h

  kept_in : (alone : Bool) (s : Selected) → SelectedIn K s → SelectedIn K (kept alone s)
  kept_in true (selected.Method m through) h = tt
  kept_in true (selected.Field t p through) h = h
  kept_in true selected.Two h = h
  kept_in true selected.None h = h
  kept_in false s h = h

  picked_in : (deeper : Selected) (hs : List Hit) → SelectedIn K deeper → HitsIn hs → SelectedIn K (picked deeper hs)
  picked_in deeper [] h k = h
  picked_in deeper (i ∷ []) h k = one_by_in i.through i.member k.0
  picked_in deeper (i ∷ j ∷ more) h k = tt

  selected_in_in : (x q : List ℕ) (all : List (List Hit)) → LevelsIn all → SelectedIn K (selected_in x q all)
  selected_in_in x q [] h = tt
  selected_in_in x q (hs ∷ all) h = picked_in (selected_in x q all) (bearing x q hs) (selected_in_in x q all h.1) (bearing_in x q hs h.0)

  in_set_in : (q : List ℕ) (s : Selected) → SelectedIn K s → MethodsIn K (in_set q s)
  in_set_in q (selected.Method m through) h = elim ((not m.pointer || through) && bytes_eq m.package q) as (λ b. MethodsIn K (if b then m ∷ [] else [])) [
    | true ↦ each_in-append K (symbols_of m.term) [] h tt
    | false ↦ tt
  ]
  in_set_in q (selected.Field t p through) h = tt
  in_set_in q selected.Two h = tt
  in_set_in q selected.None h = tt

  methods_in-append : (xs ys : List Method) → MethodsIn K xs → MethodsIn K ys → MethodsIn K (xs ++ ys)
  methods_in-append [] ys h k = k
  methods_in-append (x ∷ xs) ys h k =
      each_in-append K (symbols_of x.term) (declared_symbols (xs ++ ys)) (each_in-left K (symbols_of x.term) (declared_symbols xs) h)
      (methods_in-append xs ys (each_in-right K (symbols_of x.term) (declared_symbols xs) h) k)

  methods_of_in : (alone : Bool) (ids : List Id) (all : List (List Hit)) → LevelsIn all → MethodsIn K (methods_of alone ids all)
  methods_of_in alone [] all h = tt
  methods_of_in alone (i ∷ is) all h =
      methods_in-append (in_set i.1 (kept alone (selected_in i.0 i.1 all))) (methods_of alone is all)
      (in_set_in i.1 (kept alone (selected_in i.0 i.1 all)) (kept_in alone (selected_in i.0 i.1 all) (selected_in_in i.0 i.1 all h)))
      (methods_of_in alone is all h)

module _ (N L : Type 0) (Q : L → Type 0) (K : Symbol → Type 0) (m : Sigs) (closed : IsClosed reply_symbols K m) where
  abbrev In : {A : Type 0} → (A → Type 0) → Rule N L A → Type 0
  In P t = Stays K m Q P t

  abbrev ReplyIn : Reply → Type 0
  ReplyIn r = EachIn K (reply_symbols r)

  described_stays : {A : Type 0} (P : A → Type 0) (s : Symbol) (go : Reply → Rule N L A) → TermIn K (named s) → ((r : Reply) → ReplyIn r → In P (go r)) → In P (described s go)
  described_stays P s go h each = elim (is_error s) as (λ b. EachIn K (if b then [] else s ∷ []) → In P (if b then go (known error_sig) else ask s go)) [
    | true ↦ λ h. each (known error_sig) tt
    | false ↦ λ h. (h.0, λ r e. each r (closed.stays s r h.0 e))
  ] h

  under_by_stays : (again : Term → Rule N L Term) → ((t : Term) → TermIn K t → In (TermIn K) (again t)) → (r : Reply) → ReplyIn r → In (TermIn K) (under_by again r)
  under_by_stays again go (known g) h = go g.term (each_in-left K (symbols_of g.term) (declared_symbols g.methods) h)
  under_by_stays again go absent h = tt
  under_by_stays again go broken h = tt

  pub under_from_stays : (n : ℕ) (seen : List Symbol) (t : Term) → TermIn K t → In (TermIn K) (under_from n seen t)
  unfolding under_from
  under_from_stays zero seen t h = tt
  under_from_stays (suc n) seen (named s) h =
      elim (has_symbol seen s) as (λ b. In (TermIn K) (if b then done invalid else described s (under_by (under_from n (seen ++ s ∷ []))))) [
        | true ↦ tt
        | false ↦ described_stays (TermIn K) s (under_by (under_from n (seen ++ s ∷ []))) h (under_by_stays (under_from n (seen ++ s ∷ [])) (under_from_stays n (seen ++ s ∷ [])))
      ]
  under_from_stays (suc n) seen _ h = h

  pub underlying_stays : (t : Term) → TermIn K t → In (TermIn K) (underlying t)
  underlying_stays t h = under_from_stays furthest [] t h

  opened_by_stays : (n : ℕ) (s : Symbol) (r : Reply) → ReplyIn r → In (OpenedIn K) (opened_by n s r)
  opened_by_stays n s (known g) h =
      stays_bind K m Q (TermIn K) (OpenedIn K) (under_from n (s ∷ []) g.term) _ (under_from_stays n (s ∷ []) g.term (each_in-left K (symbols_of g.term) (declared_symbols g.methods) h))
      (λ u hu. (each_in-right K (symbols_of g.term) (declared_symbols g.methods) h, hu))
  opened_by_stays n s absent h = (tt, tt)
  opened_by_stays n s broken h = (tt, tt)

  opened_stays : (n : ℕ) (t : Term) → TermIn K t → In (OpenedIn K) (opened n t)
  opened_stays n (named s) h = described_stays (OpenedIn K) s (opened_by n s) h (opened_by_stays n s)
  opened_stays n _ h = (tt, h)

  each_stays : (f : Reached → Rule N L (List Hit)) → ((r : Reached) → TermIn K r.type → In (HitsIn K) (f r)) → (rs : List Reached) → AllReachedIn K rs → In (HitsIn K) (each f rs)
  each_stays f go [] h = tt
  each_stays f go (r ∷ rs) h =
      stays_bind K m Q (HitsIn K) (HitsIn K) (f r) _ (go r h.0)
      (λ xs hx. stays_bind K m Q (HitsIn K) (HitsIn K) (each f rs) _ (each_stays f go rs h.1) (λ ys hy. hits_in-append K xs ys hx hy))

  members_at_stays : (n d : ℕ) (r : Reached) → TermIn K r.type → In (HitsIn K) (members_at n d r)
  unfolding members_at
  members_at_stays n zero r h = stays_bind K m Q (OpenedIn K) (HitsIn K) (opened n r.type) _ (opened_stays n r.type h) (λ o ho. hits_in K r o ho)
  members_at_stays n (suc d) r h =
      stays_bind K m Q (OpenedIn K) (HitsIn K) (opened n r.type) _ (opened_stays n r.type h)
      (λ o ho. each_stays (members_at n d) (members_at_stays n d) (further r o) (further_in K r o ho))

  behind_by_in : (alone : Bool) (t u : Term) → TermIn K t → StartIn K (behind_by alone t u)
  behind_by_in alone t (interface ms) h = tt
  behind_by_in alone t _ h = (h, tt)

  behind_stays : (n : ℕ) (alone : Bool) (t : Term) → TermIn K t → In (StartIn K) (behind n alone t)
  behind_stays n alone t h = stays_bind K m Q (TermIn K) (StartIn K) (under_from n [] t) _ (under_from_stays n [] t h) (λ u hu. behind_by_in alone t u h)

  start_by_stays : (n : ℕ) (s : Symbol) (u : Term) → TermIn K (named s) → TermIn K u → In (StartIn K) (start_by n s u)
  start_by_stays n s (pointer t) h hu = behind_stays n true t hu
  start_by_stays n s _ h hu = (h, tt)

  start_stays : (n : ℕ) (t : Term) → TermIn K t → In (StartIn K) (start n t)
  start_stays n (pointer t) h = behind_stays n false t h
  start_stays n (named s) h =
      stays_bind K m Q (TermIn K) (StartIn K) (under_from n [] (named s)) _ (under_from_stays n [] (named s) h) (λ u hu. start_by_stays n s u h hu)
  start_stays n _ h = (h, tt)

  chosen_stays : (deeper : Rule N L Selected) → In (SelectedIn K) deeper → (hs : List Hit) → HitsIn K hs → In (SelectedIn K) (chosen deeper hs)
  chosen_stays deeper go [] h = go
  chosen_stays deeper go (i ∷ []) h = one_by_in K i.through i.member h.0
  chosen_stays deeper go (i ∷ j ∷ more) h = tt

  least_stays : (n : ℕ) (x q : List ℕ) (d k : ℕ) (rs : List Reached) → AllReachedIn K rs → In (SelectedIn K) (least n x q d k rs)
  unfolding least
  least_stays n x q d zero rs h = tt
  least_stays n x q d (suc k) rs h =
      stays_bind K m Q (HitsIn K) (SelectedIn K) (each (members_at n d) rs) _ (each_stays (members_at n d) (members_at_stays n d) rs h)
      (λ hs hh. chosen_stays (least n x q (d + 1) k rs) (least_stays n x q (d + 1) k rs h) (bearing x q hs) (bearing_in K x q hs hh))

  -- what a selection asks for, and what it selects
  pub selection_stays : (t : Term) (x q : List ℕ) → TermIn K t → In (SelectedIn K) (selection t x q)
  selection_stays t x q h =
      stays_bind K m Q (StartIn K) (SelectedIn K) (start furthest t) _ (start_stays furthest t h)
      (λ s hs. stays_bind K m Q (SelectedIn K) (SelectedIn K) (least furthest x q 0 furthest s.from) _ (least_stays furthest x q 0 furthest s.from hs)
      (λ f hf. kept_in K s.fields_alone f hf))

  depths_stays : (n d k : ℕ) (rs : List Reached) → AllReachedIn K rs → In (LevelsIn K) (depths n d k rs)
  unfolding depths
  depths_stays n d zero rs h = tt
  depths_stays n d (suc k) rs h =
      stays_bind K m Q (HitsIn K) (LevelsIn K) (each (members_at n d) rs) _ (each_stays (members_at n d) (members_at_stays n d) rs h)
      (λ hs hh. stays_bind K m Q (LevelsIn K) (LevelsIn K) (depths n (d + 1) k rs) _ (depths_stays n (d + 1) k rs h) (λ all hall. (hh, hall)))

  -- what a method set asks for, and what it has
  pub method_set_stays : (t : Term) → TermIn K t → In (MethodsIn K) (method_set t)
  method_set_stays t h =
      stays_bind K m Q (StartIn K) (MethodsIn K) (start furthest t) _ (start_stays furthest t h)
      (λ s hs. stays_bind K m Q (LevelsIn K) (MethodsIn K) (depths furthest 0 furthest s.from) _ (depths_stays furthest 0 furthest s.from hs)
      (λ all hall. methods_of_in K s.fields_alone (ids_of all) all hall))

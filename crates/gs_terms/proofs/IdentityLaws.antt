-- The test of identity, the rules of identity and equality of bare types are one and the same.
use Rattle.std.proofs.Common.{◌≡◌, ℕ, ℤ, Bool, true, false, ◌&&◌, List, [], ◌∷◌, Some, None, slice_get, refl, ap, sym, ◌∙◌, subst, bytes_eq, ◌==◌}
use Rattle.std.proofs.lemmas.Bool.{and_parts, eqb-true, eq-eqb}
use Rattle.std.proofs.lemmas.Bool.Decides.{Decides-int_eq}
use Rattle.std.proofs.lemmas.Slice.Eq.{bytes_eq-Decides}
use Rattle.std.specs.Cmp.Derive.{both_true}
use Rattle.std.specs.Ordering.{int_eq}
use Rattle.gs_terms.specs.declared.symbol.Symbol.{Symbol}
use Rattle.gs_terms.specs.declared.kinds.Basic.{Basic}
use Rattle.gs_terms.specs.declared.kinds.Basic.TheVariants as basic
use Rattle.gs_terms.specs.declared.kinds.Kind.{Kind}
use Rattle.gs_terms.specs.declared.kinds.Kind.TheVariants as kind
use Rattle.gs_terms.specs.declared.kinds.Dir.{Dir}
use Rattle.gs_terms.specs.declared.kinds.Dir.TheVariants as dir
use Rattle.gs_terms.specs.Number.{basic_number, kind_number, dir_number}
use Rattle.gs_terms.specs.Term as term
use Rattle.gs_terms.specs.Term.{Term, Terms, Fields, Methods}
use Rattle.gs_terms.specs.Identity as rule
use Rattle.gs_terms.specs.Identity.{identical, identical_all, identical_fields, identical_methods, same_symbol, same_bool, AreIdentical, AreAllIdentical, HaveSameFields, HaveSameMethods}
use Rattle.gs_terms.specs.Bare.{bare, bare_all, bare_fields, bare_methods, nowhere}

-- ---- the parts that are no types

abbrev all_basics : List Basic
all_basics = basic.Bool ∷ basic.String ∷ basic.Int ∷ basic.Int8 ∷ basic.Int16 ∷ basic.Int32 ∷ basic.Int64 ∷ basic.Uint ∷ basic.Uint8 ∷ basic.Uint16 ∷ basic.Uint32 ∷ basic.Uint64 ∷ basic.Uintptr ∷ basic.Float32 ∷ basic.Float64 ∷ basic.Complex64 ∷ basic.Complex128 ∷ []

basic_back : (b : Basic) → slice_get all_basics (basic_number b) ≡ Some b
basic_back basic.Bool = refl
basic_back basic.String = refl
basic_back basic.Int = refl
basic_back basic.Int8 = refl
basic_back basic.Int16 = refl
basic_back basic.Int32 = refl
basic_back basic.Int64 = refl
basic_back basic.Uint = refl
basic_back basic.Uint8 = refl
basic_back basic.Uint16 = refl
basic_back basic.Uint32 = refl
basic_back basic.Uint64 = refl
basic_back basic.Uintptr = refl
basic_back basic.Float32 = refl
basic_back basic.Float64 = refl
basic_back basic.Complex64 = refl
basic_back basic.Complex128 = refl

abbrev all_kinds : List Kind
all_kinds = kind.Bool ∷ kind.Rune ∷ kind.Int ∷ kind.String ∷ []

kind_back : (k : Kind) → slice_get all_kinds (kind_number k) ≡ Some k
kind_back kind.Bool = refl
kind_back kind.Rune = refl
kind_back kind.Int = refl
kind_back kind.String = refl

abbrev all_dirs : List Dir
all_dirs = dir.Both ∷ dir.Send ∷ dir.Receive ∷ []

dir_back : (d : Dir) → slice_get all_dirs (dir_number d) ≡ Some d
dir_back dir.Both = refl
dir_back dir.Send = refl
dir_back dir.Receive = refl

some_inj : {A : Type 0} (a b : A) → Some a ≡ Some b → a ≡ b
some_inj a b p = ap (λ o. elim o [ None ↦ a | Some x ↦ x ]) p

-- equal numbers come from equal things, where a list has each at its number
number_inj : {A : Type 0} (all : List A) (number : A → ℕ) → ((a : A) → slice_get all (number a) ≡ Some a) → (a b : A) → (number a == number b) ≡ true → a ≡ b
number_inj all number back a b p = some_inj a b (sym (back a) ∙ ap (slice_get all) (eqb-true (number a) (number b) p) ∙ back b)

text_is : (a b : List ℕ) → bytes_eq a b ≡ true → a ≡ b
text_is a b p = (bytes_eq-Decides a b).0 p

same_text : (a : List ℕ) → bytes_eq a a ≡ true
same_text a = (bytes_eq-Decides a a).1 refl

bool_is : (a b : Bool) → same_bool a b ≡ true → a ≡ b
bool_is true b p = sym p
bool_is false true p = p
bool_is false false p = refl

same_bool_self : (a : Bool) → same_bool a a ≡ true
same_bool_self true = refl
same_bool_self false = refl

symbol_is : (s t : Symbol) → same_symbol s t ≡ true → s ≡ t
symbol_is s t p =
    let outer = and_parts _ _ p in
    let inner = and_parts _ _ outer.0 in
    λ i. record { «package» = text_is s.package t.package inner.0 i; name = text_is s.name t.name inner.1 i; local = eqb-true s.local t.local outer.1 i }

number_self : (n : ℕ) → (n == n) ≡ true
number_self n = eq-eqb n n refl

-- ---- each type is identical to itself

mutual
  pub identical_self : (t : Term) → identical t t ≡ true
  identical_self term.invalid = refl
  identical_self (term.basic b) = number_self (basic_number b)
  identical_self (term.named s) = both_true (both_true (same_text s.package) (same_text s.name)) (number_self s.local)
  identical_self (term.pointer t) = identical_self t
  identical_self (term.slice t) = identical_self t
  identical_self (term.array n t) = both_true ((Decides-int_eq n n).1 refl) (identical_self t)
  identical_self (term.map k t) = both_true (identical_self k) (identical_self t)
  identical_self (term.chan d t) = both_true (number_self (dir_number d)) (identical_self t)
  identical_self (term.struct fs) = identical_fields_self fs
  identical_self (term.func ps rs v) = both_true (both_true (identical_all_self ps) (identical_all_self rs)) (same_bool_self v)
  identical_self (term.interface ms) = identical_methods_self ms
  identical_self (term.tuple ts) = identical_all_self ts
  identical_self (term.untyped k) = number_self (kind_number k)
  identical_self term.nil = refl

  identical_all_self : (ts : Terms) → identical_all ts ts ≡ true
  identical_all_self term.no_terms = refl
  identical_all_self (term.a_term t ts) = both_true (identical_self t) (identical_all_self ts)

  identical_fields_self : (fs : Fields) → identical_fields fs fs ≡ true
  identical_fields_self term.no_fields = refl
  identical_fields_self (term.a_field n p e g t at fs) =
      both_true (both_true (both_true (both_true (both_true (same_text n) (same_text p)) (same_bool_self e)) (same_text g)) (identical_self t)) (identical_fields_self fs)

  identical_methods_self : (ms : Methods) → identical_methods ms ms ≡ true
  identical_methods_self term.no_methods = refl
  identical_methods_self (term.a_method n p x t at d ms) =
      both_true (both_true (both_true (same_text n) (same_text p)) (identical_self t)) (identical_methods_self ms)

-- ---- the test sees nothing of what a bare type lacks

abbrev both : Bool → Bool → Bool
both a b = a && b

mutual
  pub identical-bare : (a b : Term) → identical (bare a) (bare b) ≡ identical a b
  identical-bare term.invalid term.invalid = refl
  identical-bare (term.basic a) (term.basic b) = refl
  identical-bare (term.named s) (term.named t) = refl
  identical-bare (term.pointer a) (term.pointer b) = identical-bare a b
  identical-bare (term.slice a) (term.slice b) = identical-bare a b
  identical-bare (term.array m a) (term.array n b) = ap (both (int_eq m n)) (identical-bare a b)
  identical-bare (term.map j a) (term.map k b) = λ i. identical-bare j k i && identical-bare a b i
  identical-bare (term.chan d a) (term.chan e b) = ap (both (dir_number d == dir_number e)) (identical-bare a b)
  identical-bare (term.struct fs) (term.struct gs) = identical_fields-bare fs gs
  identical-bare (term.func ps rs v) (term.func qs ss w) = λ i. identical_all-bare ps qs i && identical_all-bare rs ss i && same_bool v w
  identical-bare (term.interface ms) (term.interface ns) = identical_methods-bare ms ns
  identical-bare (term.tuple ts) (term.tuple us) = identical_all-bare ts us
  identical-bare (term.untyped k) (term.untyped l) = refl
  identical-bare term.nil term.nil = refl
  identical-bare _ _ = refl

  identical_all-bare : (ts us : Terms) → identical_all (bare_all ts) (bare_all us) ≡ identical_all ts us
  identical_all-bare (term.a_term t ts) (term.a_term u us) = λ i. identical-bare t u i && identical_all-bare ts us i
  identical_all-bare term.no_terms term.no_terms = refl
  identical_all-bare _ _ = refl

  identical_fields-bare : (fs gs : Fields) → identical_fields (bare_fields fs) (bare_fields gs) ≡ identical_fields fs gs
  identical_fields-bare (term.a_field m p e g t at fs) (term.a_field n q f h u by gs) =
      λ i. bytes_eq m n && bytes_eq p q && same_bool e f && bytes_eq g h && identical-bare t u i && identical_fields-bare fs gs i
  identical_fields-bare term.no_fields term.no_fields = refl
  identical_fields-bare _ _ = refl

  identical_methods-bare : (ms ns : Methods) → identical_methods (bare_methods ms) (bare_methods ns) ≡ identical_methods ms ns
  identical_methods-bare (term.a_method m p x t at d ms) (term.a_method n q y u by e ns) =
      λ i. bytes_eq m n && bytes_eq p q && identical-bare t u i && identical_methods-bare ms ns i
  identical_methods-bare term.no_methods term.no_methods = refl
  identical_methods-bare _ _ = refl

-- equal bare types pass the test
pub bare_passes : (a b : Term) → bare a ≡ bare b → identical a b ≡ true
bare_passes a b p = sym (identical-bare a b) ∙ ap (identical (bare a)) (sym p) ∙ identical_self (bare a)

-- ---- what passes the test is identical by the rules

mutual
  pub passed : (a b : Term) → identical a b ≡ true → AreIdentical a b
  passed term.invalid term.invalid p = rule.invalid
  passed (term.basic a) (term.basic b) p =
      let P : Basic → Type 0 = λ c. AreIdentical (term.basic a) (term.basic c) in
      subst P (number_inj all_basics basic_number basic_back a b p) (rule.basic a)
  passed (term.named s) (term.named t) p =
      let P : Symbol → Type 0 = λ c. AreIdentical (term.named s) (term.named c) in
      subst P (symbol_is s t p) (rule.named s)
  passed (term.pointer a) (term.pointer b) p = rule.pointer a b (passed a b p)
  passed (term.slice a) (term.slice b) p = rule.slice a b (passed a b p)
  passed (term.array m a) (term.array n b) p =
      let parts = and_parts _ _ p in
      let P : ℤ → Type 0 = λ k. AreIdentical (term.array m a) (term.array k b) in
      subst P ((Decides-int_eq m n).0 parts.0) (rule.array m a b (passed a b parts.1))
  passed (term.map j a) (term.map k b) p = let parts = and_parts _ _ p in rule.map j k a b (passed j k parts.0) (passed a b parts.1)
  passed (term.chan d a) (term.chan e b) p =
      let parts = and_parts _ _ p in
      let P : Dir → Type 0 = λ c. AreIdentical (term.chan d a) (term.chan c b) in
      subst P (number_inj all_dirs dir_number dir_back d e parts.0) (rule.chan d a b (passed a b parts.1))
  passed (term.struct fs) (term.struct gs) p = rule.struct fs gs (fields_passed fs gs p)
  passed (term.func ps rs v) (term.func qs ss w) p =
      let parts = and_parts _ _ p in
      let inner = and_parts _ _ parts.0 in
      let P : Bool → Type 0 = λ x. AreIdentical (term.func ps rs v) (term.func qs ss x) in
      subst P (bool_is v w parts.1) (rule.func ps qs rs ss v (all_passed ps qs inner.0) (all_passed rs ss inner.1))
  passed (term.interface ms) (term.interface ns) p = rule.interface ms ns (methods_passed ms ns p)
  passed (term.tuple ts) (term.tuple us) p = rule.tuple ts us (all_passed ts us p)
  passed (term.untyped k) (term.untyped l) p =
      let P : Kind → Type 0 = λ c. AreIdentical (term.untyped k) (term.untyped c) in
      subst P (number_inj all_kinds kind_number kind_back k l p) (rule.untyped k)
  passed term.nil term.nil p = rule.nil
  passed _ _ p = (cc)

  all_passed : (ts us : Terms) → identical_all ts us ≡ true → AreAllIdentical ts us
  all_passed term.no_terms term.no_terms p = rule.none
  all_passed (term.a_term t ts) (term.a_term u us) p = let parts = and_parts _ _ p in rule.one_more t u ts us (passed t u parts.0) (all_passed ts us parts.1)
  all_passed _ _ p = (cc)

  fields_passed : (fs gs : Fields) → identical_fields fs gs ≡ true → HaveSameFields fs gs
  fields_passed term.no_fields term.no_fields p = rule.no_fields
  fields_passed (term.a_field m p e g t at fs) (term.a_field n q f h u by gs) all =
      let five = and_parts _ _ all in
      let four = and_parts _ _ five.0 in
      let three = and_parts _ _ four.0 in
      let two = and_parts _ _ three.0 in
      let one = and_parts _ _ two.0 in
      let same = rule.a_field m p e g t u at by fs gs (passed t u four.1) (fields_passed fs gs five.1) in
      let P : (List ℕ × List ℕ × Bool × List ℕ) → Type 0 = λ x. HaveSameFields (term.a_field m p e g t at fs) (term.a_field x.0 x.1 x.2 x.3 u by gs) in
      let parts : (m, p, e, g) ≡ (n, q, f, h) = λ i. (text_is m n one.0 i, text_is p q one.1 i, bool_is e f two.1 i, text_is g h three.1 i) in
      subst P parts same
  fields_passed _ _ p = (cc)

  methods_passed : (ms ns : Methods) → identical_methods ms ns ≡ true → HaveSameMethods ms ns
  methods_passed term.no_methods term.no_methods p = rule.no_methods
  methods_passed (term.a_method m p x t at d ms) (term.a_method n q y u by e ns) all =
      let three = and_parts _ _ all in
      let two = and_parts _ _ three.0 in
      let one = and_parts _ _ two.0 in
      let same = rule.a_method m p x y t u at by d e ms ns (passed t u two.1) (methods_passed ms ns three.1) in
      let P : (List ℕ × List ℕ) → Type 0 = λ z. HaveSameMethods (term.a_method m p x t at d ms) (term.a_method z.0 z.1 y u by e ns) in
      let parts : (m, p) ≡ (n, q) = λ i. (text_is m n one.0 i, text_is p q one.1 i) in
      subst P parts same
  methods_passed _ _ p = (cc)

-- ---- what is identical by the rules has one bare type

mutual
  pub bare_same : (a b : Term) → AreIdentical a b → bare a ≡ bare b
  bare_same _ _ rule.invalid = refl
  bare_same _ _ (rule.basic b) = refl
  bare_same _ _ (rule.named s) = refl
  bare_same _ _ (rule.pointer a b h) = ap term.pointer (bare_same a b h)
  bare_same _ _ (rule.slice a b h) = ap term.slice (bare_same a b h)
  bare_same _ _ (rule.array n a b h) = ap (term.array n) (bare_same a b h)
  bare_same _ _ (rule.map j k a b g h) = λ i. term.map (bare_same j k g i) (bare_same a b h i)
  bare_same _ _ (rule.chan d a b h) = ap (term.chan d) (bare_same a b h)
  bare_same _ _ (rule.struct fs gs h) = ap term.struct (bare_same_fields fs gs h)
  bare_same _ _ (rule.func ps qs rs ss v g h) = λ i. term.func (bare_same_all ps qs g i) (bare_same_all rs ss h i) v
  bare_same _ _ (rule.interface ms ns h) = ap term.interface (bare_same_methods ms ns h)
  bare_same _ _ (rule.tuple ts us h) = ap term.tuple (bare_same_all ts us h)
  bare_same _ _ (rule.untyped k) = refl
  bare_same _ _ rule.nil = refl

  bare_same_all : (ts us : Terms) → AreAllIdentical ts us → bare_all ts ≡ bare_all us
  bare_same_all _ _ rule.none = refl
  bare_same_all _ _ (rule.one_more t u ts us g h) = λ i. term.a_term (bare_same t u g i) (bare_same_all ts us h i)

  bare_same_fields : (fs gs : Fields) → HaveSameFields fs gs → bare_fields fs ≡ bare_fields gs
  bare_same_fields _ _ rule.no_fields = refl
  bare_same_fields _ _ (rule.a_field n p e g t u at by fs gs same more) = λ i. term.a_field n p e g (bare_same t u same i) nowhere (bare_same_fields fs gs more i)

  bare_same_methods : (ms ns : Methods) → HaveSameMethods ms ns → bare_methods ms ≡ bare_methods ns
  bare_same_methods _ _ rule.no_methods = refl
  bare_same_methods _ _ (rule.a_method n p x y t u at by d e ms ns same more) = λ i. term.a_method n p false (bare_same t u same i) nowhere [] (bare_same_methods ms ns more i)

-- ---- an equivalence

pub symmetric : (a b : Term) → identical a b ≡ true → identical b a ≡ true
symmetric a b p = bare_passes b a (sym (bare_same a b (passed a b p)))

pub transitive : (a b c : Term) → identical a b ≡ true → identical b c ≡ true → identical a c ≡ true
transitive a b c p q = bare_passes a c (bare_same a b (passed a b p) ∙ bare_same b c (passed b c q))

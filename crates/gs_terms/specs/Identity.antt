-- When two types are identical. Go specification, "Type identity".
use Rattle.std.specs.Prelude.{ℕ, ◌==◌, ℤ, Bool, true, false, not, ◌&&◌, List, bytes_eq}
use Rattle.std.specs.Ordering.{int_eq}
use Rattle.gs_terms.specs.declared.symbol.Symbol.{Symbol}
use Rattle.gs_terms.specs.declared.symbol.Place.{Place}
use Rattle.gs_terms.specs.declared.term.FieldTerm.{FieldTerm}
use Rattle.gs_terms.specs.declared.term.Method.{Method}
use Rattle.gs_terms.specs.declared.kinds.Basic.{Basic}
use Rattle.gs_terms.specs.declared.kinds.Kind.{Kind}
use Rattle.gs_terms.specs.declared.kinds.Dir.{Dir}
use Rattle.gs_terms.specs.Number.{basic_number, kind_number, dir_number}
use Rattle.gs_terms.specs.Term as term
use Rattle.gs_terms.specs.Term.{Term, Terms, Fields, Methods}

-- The rules, one for each form of type. No rule joins two different forms, and a defined type is identical to itself
-- alone. Places, doc comments and the kind of a method's receiver don't count. The package of a field or method is
-- empty where its name is exported, so non-exported names of different packages differ.
mutual
  pub data AreIdentical : Term → Term → Type 0 where
    invalid : AreIdentical term.invalid term.invalid
    basic : (b : Basic) → AreIdentical (term.basic b) (term.basic b)
    named : (s : Symbol) → AreIdentical (term.named s) (term.named s)
    -- identical base types
    pointer : (a b : Term) → AreIdentical a b → AreIdentical (term.pointer a) (term.pointer b)
    -- identical element types
    slice : (a b : Term) → AreIdentical a b → AreIdentical (term.slice a) (term.slice b)
    -- identical element types and the same length
    array : (n : ℤ) (a b : Term) → AreIdentical a b → AreIdentical (term.array n a) (term.array n b)
    -- identical key and element types
    map : (j k a b : Term) → AreIdentical j k → AreIdentical a b → AreIdentical (term.map j a) (term.map k b)
    -- identical element types and the same direction
    chan : (d : Dir) (a b : Term) → AreIdentical a b → AreIdentical (term.chan d a) (term.chan d b)
    -- the same sequence of fields
    struct : (fs gs : Fields) → HaveSameFields fs gs → AreIdentical (term.struct fs) (term.struct gs)
    -- as many parameters and results, identical one by one, and both variadic or neither
    func : (ps qs rs ss : Terms) (v : Bool) → AreAllIdentical ps qs → AreAllIdentical rs ss → AreIdentical (term.func ps rs v) (term.func qs ss v)
    -- the same methods, which are listed in one order
    interface : (ms ns : Methods) → HaveSameMethods ms ns → AreIdentical (term.interface ms) (term.interface ns)
    tuple : (ts us : Terms) → AreAllIdentical ts us → AreIdentical (term.tuple ts) (term.tuple us)
    untyped : (k : Kind) → AreIdentical (term.untyped k) (term.untyped k)
    nil : AreIdentical term.nil term.nil

  pub data AreAllIdentical : Terms → Terms → Type 0 where
    none : AreAllIdentical term.no_terms term.no_terms
    one_more : (t u : Term) (ts us : Terms) → AreIdentical t u → AreAllIdentical ts us → AreAllIdentical (term.a_term t ts) (term.a_term u us)

  -- the same names, identical types, the same tags, and both embedded or neither
  pub data HaveSameFields : Fields → Fields → Type 0 where
    no_fields : HaveSameFields term.no_fields term.no_fields
    a_field : (name path : List ℕ) (embedded : Bool) (tag : List ℕ) (t u : Term) (p q : Place) (fs gs : Fields) →
        AreIdentical t u → HaveSameFields fs gs → HaveSameFields (term.a_field name path embedded tag t p fs) (term.a_field name path embedded tag u q gs)

  -- the same names and identical function types
  pub data HaveSameMethods : Methods → Methods → Type 0 where
    no_methods : HaveSameMethods term.no_methods term.no_methods
    a_method : (name path : List ℕ) (x y : Bool) (t u : Term) (p q : Place) (d e : List ℕ) (ms ns : Methods) →
        AreIdentical t u → HaveSameMethods ms ns → HaveSameMethods (term.a_method name path x t p d ms) (term.a_method name path y u q e ns)

abbrev pub same_symbol : Symbol → Symbol → Bool
same_symbol a b = bytes_eq a.package b.package && bytes_eq a.name b.name && a.local == b.local

abbrev pub same_bool : Bool → Bool → Bool
same_bool true b = b
same_bool false b = not b

-- the same as a test
abbrev mutual
  pub identical : Term → Term → Bool
  identical term.invalid term.invalid = true
  identical (term.basic a) (term.basic b) = basic_number a == basic_number b
  identical (term.named s) (term.named t) = same_symbol s t
  identical (term.pointer a) (term.pointer b) = identical a b
  identical (term.slice a) (term.slice b) = identical a b
  identical (term.array m a) (term.array n b) = int_eq m n && identical a b
  identical (term.map j a) (term.map k b) = identical j k && identical a b
  identical (term.chan d a) (term.chan e b) = dir_number d == dir_number e && identical a b
  identical (term.struct fs) (term.struct gs) = identical_fields fs gs
  identical (term.func ps rs v) (term.func qs ss w) = identical_all ps qs && identical_all rs ss && same_bool v w
  identical (term.interface ms) (term.interface ns) = identical_methods ms ns
  identical (term.tuple ts) (term.tuple us) = identical_all ts us
  identical (term.untyped k) (term.untyped l) = kind_number k == kind_number l
  identical term.nil term.nil = true
  identical _ _ = false

  pub identical_all : Terms → Terms → Bool
  identical_all term.no_terms term.no_terms = true
  identical_all (term.a_term t ts) (term.a_term u us) = identical t u && identical_all ts us
  identical_all _ _ = false

  pub identical_fields : Fields → Fields → Bool
  identical_fields term.no_fields term.no_fields = true
  identical_fields (term.a_field m p e g t at fs) (term.a_field n q f h u by gs) = bytes_eq m n && bytes_eq p q && same_bool e f && bytes_eq g h && identical t u && identical_fields fs gs
  identical_fields _ _ = false

  pub identical_methods : Methods → Methods → Bool
  identical_methods term.no_methods term.no_methods = true
  identical_methods (term.a_method m p x t at d ms) (term.a_method n q y u by e ns) = bytes_eq m n && bytes_eq p q && identical t u && identical_methods ms ns
  identical_methods _ _ = false

-- the same of two fields, and of two methods
abbrev pub same_field : FieldTerm → FieldTerm → Bool
same_field x y = bytes_eq x.name y.name && bytes_eq x.package y.package && same_bool x.embedded y.embedded && bytes_eq x.tag y.tag && identical x.term y.term

abbrev pub same_method : Method → Method → Bool
same_method x y = bytes_eq x.name y.name && bytes_eq x.package y.package && identical x.term y.term

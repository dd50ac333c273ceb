-- The types of the language as plain data. Go specification, "Types".
use Rattle.std.specs.Prelude.{ℕ, ◌+◌, ℤ, Bool, List}
use Rattle.gs_terms.specs.declared.symbol.Symbol.{Symbol}
use Rattle.gs_terms.specs.declared.symbol.Place.{Place}
use Rattle.gs_terms.specs.declared.kinds.Basic.{Basic}
use Rattle.gs_terms.specs.declared.kinds.Kind.{Kind}
use Rattle.gs_terms.specs.declared.kinds.Dir.{Dir}

-- A text is the list of its bytes. The length of an array is any integer. `func` has parameters, results, and
-- whether it is variadic. A field has a name, the package where the name is not exported, whether it is embedded,
-- a tag, a type and a place; a method has a name, a package, whether its receiver is a pointer, a type, a place and
-- a doc comment.
mutual
  pub data Term : Type 0 where
    invalid : Term
    basic : Basic → Term
    named : Symbol → Term
    pointer : Term → Term
    slice : Term → Term
    array : ℤ → Term → Term
    map : Term → Term → Term
    chan : Dir → Term → Term
    struct : Fields → Term
    func : Terms → Terms → Bool → Term
    interface : Methods → Term
    tuple : Terms → Term
    untyped : Kind → Term
    nil : Term

  pub data Terms : Type 0 where
    no_terms : Terms
    a_term : Term → Terms → Terms

  pub data Fields : Type 0 where
    no_fields : Fields
    a_field : List ℕ → List ℕ → Bool → List ℕ → Term → Place → Fields → Fields

  pub data Methods : Type 0 where
    no_methods : Methods
    a_method : List ℕ → List ℕ → Bool → Term → Place → List ℕ → Methods → Methods

-- how many types, fields and methods stand in one: what a recursion over it counts down
abbrev mutual
  pub weight : Term → ℕ
  weight invalid = 1
  weight (basic b) = 1
  weight (named s) = 1
  weight (pointer t) = weight t + 1
  weight (slice t) = weight t + 1
  weight (array n t) = weight t + 1
  weight (map k t) = weight k + weight t + 1
  weight (chan d t) = weight t + 1
  weight (struct fs) = fields_weight fs + 1
  weight (func ps rs v) = terms_weight ps + terms_weight rs + 1
  weight (interface ms) = methods_weight ms + 1
  weight (tuple ts) = terms_weight ts + 1
  weight (untyped k) = 1
  weight nil = 1

  pub terms_weight : Terms → ℕ
  terms_weight no_terms = 1
  terms_weight (a_term t ts) = weight t + terms_weight ts + 1

  pub fields_weight : Fields → ℕ
  fields_weight no_fields = 1
  fields_weight (a_field name package_path embedded tag t place fs) = weight t + fields_weight fs + 1

  pub methods_weight : Methods → ℕ
  methods_weight no_methods = 1
  methods_weight (a_method name package_path by_pointer t place doc ms) = weight t + methods_weight ms + 1

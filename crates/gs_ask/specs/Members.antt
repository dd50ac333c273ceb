-- The fields and methods that a type has of its own, and those that it has through embedded fields. Go specification,
-- "Struct types", "Selectors".
use Rattle.std.specs.Prelude.{ℕ, zero, suc, ◌||◌, Bool, true, false, List, [], ◌∷◌, ◌++◌, map}
use Rattle.gs_terms.specs.declared.symbol.Symbol.{Symbol}
use Rattle.gs_terms.specs.declared.term.FieldTerm.{FieldTerm}
use Rattle.gs_terms.specs.declared.term.Method.{Method}
use Rattle.gs_terms.specs.Term.{Term, Fields, Methods, invalid, named, pointer, struct, interface, no_fields, a_field, no_methods, a_method}
use Rattle.gs_ask.specs.Ask.{done, ◌>>=◌}
use Rattle.gs_ask.specs.Reply.{Reply, known, absent, broken, Rule}
use Rattle.gs_ask.specs.Under.{described, under_from}

abbrev pub field_list : Fields → List FieldTerm
field_list no_fields = []
field_list (a_field x q e g t p fs) = record { name = x; «package» = q; embedded = e; tag = g; term = t; place = p } ∷ field_list fs

abbrev pub method_list : Methods → List Method
method_list no_methods = []
method_list (a_method x q r t p d ms) = record { name = x; «package» = q; pointer = r; term = t; place = p; doc = d } ∷ method_list ms

pub data Member : Type 0 where
  a_field_of : FieldTerm → Member
  a_method_of : Method → Member

abbrev pub name_of : Member → List ℕ
name_of (a_field_of f) = f.name
name_of (a_method_of m) = m.name

abbrev pub package_of : Member → List ℕ
package_of (a_field_of f) = f.package
package_of (a_method_of m) = m.package

-- a type that a way through embedded fields leads to, and whether the way goes through a pointer
pub record Reached : Type 0 where
  pub type : Term
  pub through : Bool

-- a field or method at the end of a way, and whether the way goes through a pointer
pub record Hit : Type 0 where
  pub member : Member
  pub through : Bool

-- the methods that are declared for a type, and its underlying type
pub record Opened : Type 0 where
  pub methods : List Method
  pub under : Term

abbrev pub opened_by : {N L : Type 0} → ℕ → Symbol → Reply → Rule N L Opened
opened_by n s (known g) = under_from n (s ∷ []) g.term >>= (λ u. done (record { methods = g.methods; under = u }))
opened_by n s absent = done (record { methods = []; under = invalid })
opened_by n s broken = done (record { methods = []; under = invalid })

abbrev pub opened : {N L : Type 0} → ℕ → Term → Rule N L Opened
opened n (named s) = described s (opened_by n s)
opened n t = done (record { methods = []; under = t })

-- the fields of a struct, or the methods of an interface
abbrev pub inside : Term → List Member
inside (struct fs) = map a_field_of (field_list fs)
inside (interface ms) = map a_method_of (method_list ms)
inside t = []

abbrev pub own_members : Opened → List Member
own_members o = map a_method_of o.methods ++ inside o.under

abbrev pub hits_of : Bool → List Member → List Hit
hits_of through [] = []
hits_of through (x ∷ xs) = record { member = x; through = through } ∷ hits_of through xs

-- what a type of its own has at the end of a way
abbrev pub hits : Reached → Opened → List Hit
hits r o = hits_of r.through (own_members o)

-- the type without a pointer before it
abbrev pub base : Term → Term
base (pointer t) = t
base t = t

abbrev pub is_pointer : Term → Bool
is_pointer (pointer t) = true
is_pointer t = false

-- the types of the embedded fields
abbrev pub embedded : Bool → Fields → List Reached
embedded through no_fields = []
embedded through (a_field x q true g t p fs) = record { type = base t; through = through || is_pointer t } ∷ embedded through fs
embedded through (a_field x q false g t p fs) = embedded through fs

abbrev pub fields_in : Term → Fields
fields_in (struct fs) = fs
fields_in t = no_fields

-- the types that one more embedded field leads to
abbrev pub further : Reached → Opened → List Reached
further r o = embedded r.through (fields_in o.under)

abbrev pub each : {N L A : Type 0} → (Reached → Rule N L (List A)) → List Reached → Rule N L (List A)
each f [] = done []
each f (r ∷ rs) = f r >>= (λ xs. each f rs >>= (λ ys. done (xs ++ ys)))

-- The fields and methods at the end of each way through d embedded fields.
unfoldable pub members_at : {N L : Type 0} → ℕ → ℕ → Reached → Rule N L (List Hit)
members_at n zero r = opened n r.type >>= (λ o. done (hits r o))
members_at n (suc d) r = opened n r.type >>= (λ o. each (members_at n d) (further r o))

-- Where ways begin, and whether methods don't count. A pointer is followed, though not to an interface, and so is a defined
-- pointer type, which leads to fields alone.
pub record Start : Type 0 where
  pub from : List Reached
  pub fields_alone : Bool

abbrev pub behind_by : Bool → Term → Term → Start
behind_by alone t (interface ms) = record { from = []; fields_alone = alone }
behind_by alone t u = record { from = record { type = t; through = true } ∷ []; fields_alone = alone }

abbrev pub behind : {N L : Type 0} → ℕ → Bool → Term → Rule N L Start
behind n alone t = under_from n [] t >>= (λ u. done (behind_by alone t u))

abbrev pub start_by : {N L : Type 0} → ℕ → Symbol → Term → Rule N L Start
start_by n s (pointer t) = behind n true t
start_by n s u = done (record { from = record { type = named s; through = false } ∷ []; fields_alone = false })

abbrev pub start : {N L : Type 0} → ℕ → Term → Rule N L Start
start n (pointer t) = behind n false t
start n (named s) = under_from n [] (named s) >>= start_by n s
start n t = done (record { from = record { type = t; through = false } ∷ []; fields_alone = false })

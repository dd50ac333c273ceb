-- How a type is written. The forms are those of Go specification, "Types"; a defined type bears the path of its
-- package where that is not the reader's own.
use Rattle.std.specs.Prelude.{ℕ, Bool, true, false, ◌||◌, List, [], ◌∷◌, ◌++◌, bytes_eq, codes, drop, if◌then◌else◌}
use Rattle.std.specs.Fmt.{signed_decimal}
use Rattle.gs_terms.specs.declared.symbol.Symbol.{Symbol}
use Rattle.gs_terms.specs.declared.kinds.Basic.{Basic}
use Rattle.gs_terms.specs.declared.kinds.Basic.TheVariants as basic
use Rattle.gs_terms.specs.declared.kinds.Kind.{Kind}
use Rattle.gs_terms.specs.declared.kinds.Kind.TheVariants as kind
use Rattle.gs_terms.specs.declared.kinds.Dir.{Dir}
use Rattle.gs_terms.specs.declared.kinds.Dir.TheVariants as dir
use Rattle.gs_terms.specs.Term as term
use Rattle.gs_terms.specs.Term.{Term, Terms, Fields, Methods}
use Rattle.gs_terms.specs.Identity.{same_symbol}
use Rattle.gs_terms.specs.Universe.{error_symbol}

-- texts with a separator between each two
abbrev pub joined : List ℕ → List (List ℕ) → List ℕ
joined separator [] = []
joined separator (x ∷ []) = x
joined separator (x ∷ xs) = x ++ separator ++ joined separator xs

abbrev pub basic_text : Basic → List ℕ
basic_text basic.Bool = codes "bool"
basic_text basic.String = codes "string"
basic_text basic.Int = codes "int"
basic_text basic.Int8 = codes "int8"
basic_text basic.Int16 = codes "int16"
basic_text basic.Int32 = codes "int32"
basic_text basic.Int64 = codes "int64"
basic_text basic.Uint = codes "uint"
basic_text basic.Uint8 = codes "uint8"
basic_text basic.Uint16 = codes "uint16"
basic_text basic.Uint32 = codes "uint32"
basic_text basic.Uint64 = codes "uint64"
basic_text basic.Uintptr = codes "uintptr"
basic_text basic.Float32 = codes "float32"
basic_text basic.Float64 = codes "float64"
basic_text basic.Complex64 = codes "complex64"
basic_text basic.Complex128 = codes "complex128"

abbrev pub kind_text : Kind → List ℕ
kind_text kind.Bool = codes "untyped bool"
kind_text kind.Rune = codes "untyped rune"
kind_text kind.Int = codes "untyped int"
kind_text kind.String = codes "untyped string"

-- the name alone in its own package and for error, which is of no package; else after the path and a dot
abbrev pub symbol_text : List ℕ → Symbol → List ℕ
symbol_text own s = if bytes_eq s.package own || same_symbol s error_symbol then s.name else s.package ++ codes "." ++ s.name

-- what stands before a channel's element
abbrev pub chan_text : Dir → List ℕ
chan_text dir.Both = codes "chan "
chan_text dir.Send = codes "chan<- "
chan_text dir.Receive = codes "<-chan "

-- Without parentheses the arrow of `chan (<-chan T)` would be taken by the first chan.
abbrev pub has_parentheses : Dir → Term → Bool
has_parentheses dir.Both (term.chan dir.Receive t) = true
has_parentheses _ _ = false

-- What stands after the name of a function or method: its type without `func`; a blank and the type where that is no
-- function.
abbrev pub after_name : Term → List ℕ → List ℕ
after_name (term.func ps rs v) text = drop 4 text
after_name t text = codes " " ++ text

-- The last parameter of a variadic function: `...` in place of the `[]` of its slice.
abbrev pub last_text : Term → List ℕ → List ℕ
last_text (term.slice t) text = codes "..." ++ drop 2 text
last_text t text = codes "..." ++ text

-- `F A`, or the type alone of an embedded field
abbrev pub field_text : Bool → List ℕ → List ℕ → List ℕ
field_text true name text = text
field_text false name text = name ++ codes " " ++ text

-- `(A, B)`
abbrev pub in_parentheses : List (List ℕ) → List ℕ
in_parentheses xs = codes "(" ++ joined (codes ", ") xs ++ codes ")"

-- `own` is the path of the reader's package
module _ (own : List ℕ) where
  abbrev mutual
    pub term_text : Term → List ℕ
    term_text term.invalid = codes "invalid"
    term_text (term.basic b) = basic_text b
    term_text (term.named s) = symbol_text own s
    term_text (term.pointer t) = codes "*" ++ term_text t
    term_text (term.slice t) = codes "[]" ++ term_text t
    term_text (term.array n t) = codes "[" ++ signed_decimal n ++ codes "]" ++ term_text t
    term_text (term.map k t) = codes "map[" ++ term_text k ++ codes "]" ++ term_text t
    term_text (term.chan d t) = chan_text d ++ (if has_parentheses d t then codes "(" ++ term_text t ++ codes ")" else term_text t)
    term_text (term.struct fs) = codes "struct{" ++ joined (codes "; ") (field_texts fs) ++ codes "}"
    term_text (term.func ps rs v) = codes "func" ++ (in_parentheses (if v then variadic_texts ps else texts ps) ++ results_text rs)
    term_text (term.interface ms) = codes "interface{" ++ joined (codes "; ") (method_texts ms) ++ codes "}"
    term_text (term.tuple ts) = in_parentheses (texts ts)
    term_text (term.untyped k) = kind_text k
    term_text term.nil = codes "untyped nil"

    pub texts : Terms → List (List ℕ)
    texts term.no_terms = []
    texts (term.a_term t ts) = term_text t ∷ texts ts

    pub variadic_texts : Terms → List (List ℕ)
    variadic_texts term.no_terms = []
    variadic_texts (term.a_term t term.no_terms) = last_text t (term_text t) ∷ []
    variadic_texts (term.a_term t ts) = term_text t ∷ variadic_texts ts

    -- nothing, ` B` or ` (B, C)`
    pub results_text : Terms → List ℕ
    results_text term.no_terms = []
    results_text (term.a_term t term.no_terms) = codes " " ++ term_text t
    results_text (term.a_term t ts) = codes " " ++ in_parentheses (term_text t ∷ texts ts)

    pub field_texts : Fields → List (List ℕ)
    field_texts term.no_fields = []
    field_texts (term.a_field name path embedded tag t place fs) = field_text embedded name (term_text t) ∷ field_texts fs

    pub method_texts : Methods → List (List ℕ)
    method_texts term.no_methods = []
    method_texts (term.a_method name path pointer t place doc ms) = (name ++ after_name t (term_text t)) ∷ method_texts ms

  -- parameters, of which the last may take the rest of the arguments
  abbrev pub param_texts : Terms → Bool → List (List ℕ)
  param_texts ps v = if v then variadic_texts ps else texts ps

  -- `(A, ...B) C`
  abbrev pub signature_text : Terms → Terms → Bool → List ℕ
  signature_text ps rs v = in_parentheses (param_texts ps v) ++ results_text rs

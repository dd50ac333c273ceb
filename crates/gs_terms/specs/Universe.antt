-- The names that every program knows. Go specification, "Predeclared identifiers".
use Rattle.std.specs.Prelude.{◌≡◌, ℕ, ◌-◌, ◌^◌, true, false, List, [], ◌∷◌, ◌++◌, Option, Some, None, bytes_eq, codes, if◌then◌else◌}
use Rattle.gs_terms.specs.declared.kinds.Basic.TheVariants as basic
use Rattle.gs_terms.specs.declared.kinds.SigKind.TheVariants as kind
use Rattle.gs_terms.specs.declared.predeclared.Known.{Known}
use Rattle.gs_terms.specs.declared.predeclared.Known.TheVariants as known
use Rattle.gs_terms.specs.declared.predeclared.Builtin.TheVariants as builtin
use Rattle.gs_terms.specs.declared.symbol.Symbol.{Symbol}
use Rattle.gs_terms.specs.declared.sig.Sig.{Sig}
use Rattle.gs_terms.specs.Term as term
use Rattle.gs_terms.specs.Term.{Methods}
use Rattle.gs_terms.specs.Bare.{nowhere}

abbrev pub Table : Type 0
Table = List (List ℕ × Known)

abbrev pub signed_integers : Table
signed_integers =
    (codes "int", known.Basic basic.Int) ∷
    (codes "int8", known.Basic basic.Int8) ∷
    (codes "int16", known.Basic basic.Int16) ∷
    (codes "int32", known.Basic basic.Int32) ∷
    (codes "int64", known.Basic basic.Int64) ∷
    (codes "rune", known.Basic basic.Int32) ∷
    []

abbrev pub unsigned_integers : Table
unsigned_integers =
    (codes "uint", known.Basic basic.Uint) ∷
    (codes "uint8", known.Basic basic.Uint8) ∷
    (codes "uint16", known.Basic basic.Uint16) ∷
    (codes "uint32", known.Basic basic.Uint32) ∷
    (codes "uint64", known.Basic basic.Uint64) ∷
    (codes "uintptr", known.Basic basic.Uintptr) ∷
    (codes "byte", known.Basic basic.Uint8) ∷
    []

abbrev pub other_types : Table
other_types =
    (codes "bool", known.Basic basic.Bool) ∷
    (codes "string", known.Basic basic.String) ∷
    (codes "float32", known.Basic basic.Float32) ∷
    (codes "float64", known.Basic basic.Float64) ∷
    (codes "complex64", known.Basic basic.Complex64) ∷
    (codes "complex128", known.Basic basic.Complex128) ∷
    (codes "error", known.Error) ∷
    []

abbrev pub constants : Table
constants =
    (codes "true", known.Truth true) ∷
    (codes "false", known.Truth false) ∷
    (codes "iota", known.Iota) ∷
    (codes "nil", known.Nil) ∷
    []

abbrev pub collection_functions : Table
collection_functions =
    (codes "append", known.Function builtin.Append) ∷
    (codes "cap", known.Function builtin.Cap) ∷
    (codes "close", known.Function builtin.Close) ∷
    (codes "copy", known.Function builtin.Copy) ∷
    (codes "delete", known.Function builtin.Delete) ∷
    (codes "len", known.Function builtin.Len) ∷
    (codes "make", known.Function builtin.Make) ∷
    (codes "new", known.Function builtin.New) ∷
    []

abbrev pub other_functions : Table
other_functions =
    (codes "complex", known.Function builtin.Complex) ∷
    (codes "imag", known.Function builtin.Imag) ∷
    (codes "panic", known.Function builtin.Panic) ∷
    (codes "print", known.Function builtin.Print) ∷
    (codes "println", known.Function builtin.Println) ∷
    (codes "real", known.Function builtin.Real) ∷
    (codes "recover", known.Function builtin.Recover) ∷
    []

-- types; constants and nil; functions
unfoldable pub table : Table
table = signed_integers ++ unsigned_integers ++ other_types ++ constants ++ collection_functions ++ other_functions

-- what a name stands for in a table
abbrev pub lookup : Table → List ℕ → Option Known
lookup [] name = None
lookup (line ∷ more) name = if bytes_eq name line.0 then Some line.1 else lookup more name

-- each of these lines is what the table says of its name, so none is hidden by one before it
abbrev pub EachCounts : Table → Table → Type 0
EachCounts all [] = Unit {0}
EachCounts all (line ∷ more) = (lookup all line.0 ≡ Some line.1) × EachCounts all more

-- The type error is declared in no package, and bears a number that no local type has.
abbrev pub error_symbol : Symbol
error_symbol = record { «package» = []; name = codes "error"; local = 2 ^ 32 - 1 }

-- Error() string
abbrev pub error_methods : Methods
error_methods =
    term.a_method (codes "Error") [] false (term.func term.no_terms (term.a_term (term.basic basic.String) term.no_terms) false) nowhere [] term.no_methods

-- type error interface { Error() string }
abbrev pub error_sig : Sig
error_sig = record {
  kind = kind.Defined;
  term = term.interface error_methods;
  value = None;
  methods = [];
  place = nowhere;
  doc = [];
}

-- The names that stand in a type: those of the defined types in it. `error` is of the universe, so no source names it.
use Rattle.std.specs.Prelude.{Bool, false, ◌||◌, if◌then◌else◌, List, [], ◌∷◌, ◌++◌}
use Rattle.gs_terms.specs.declared.symbol.Symbol.{Symbol}
use Rattle.gs_terms.specs.declared.term.Method.{Method}
use Rattle.gs_terms.specs.Term.{Term, Terms, Fields, Methods}
use Rattle.gs_terms.specs.Term as term
use Rattle.gs_terms.specs.Identity.{same_symbol}
use Rattle.gs_terms.specs.Universe.{error_symbol}
use Rattle.gs_ask.specs.Reply.{Reply, known, absent, broken}

-- whether the name is one of these
abbrev pub has_symbol : List Symbol → Symbol → Bool
has_symbol [] s = false
has_symbol (q ∷ qs) s = same_symbol q s || has_symbol qs s

-- the name of the type `error`
abbrev pub is_error : Symbol → Bool
is_error s = same_symbol s error_symbol

abbrev mutual
  pub symbols_of : Term → List Symbol
  symbols_of term.invalid = []
  symbols_of (term.basic b) = []
  symbols_of (term.named s) = if is_error s then [] else s ∷ []
  symbols_of (term.pointer t) = symbols_of t
  symbols_of (term.slice t) = symbols_of t
  symbols_of (term.array n t) = symbols_of t
  symbols_of (term.map k t) = symbols_of k ++ symbols_of t
  symbols_of (term.chan d t) = symbols_of t
  symbols_of (term.struct fs) = fields_symbols fs
  symbols_of (term.func ps rs v) = terms_symbols ps ++ terms_symbols rs
  symbols_of (term.interface ms) = methods_symbols ms
  symbols_of (term.tuple ts) = terms_symbols ts
  symbols_of (term.untyped k) = []
  symbols_of term.nil = []

  pub terms_symbols : Terms → List Symbol
  terms_symbols term.no_terms = []
  terms_symbols (term.a_term t ts) = symbols_of t ++ terms_symbols ts

  pub fields_symbols : Fields → List Symbol
  fields_symbols term.no_fields = []
  fields_symbols (term.a_field x q e g t p fs) = symbols_of t ++ fields_symbols fs

  pub methods_symbols : Methods → List Symbol
  methods_symbols term.no_methods = []
  methods_symbols (term.a_method x q r t p d ms) = symbols_of t ++ methods_symbols ms

-- the names that stand in the types of declared methods
abbrev pub declared_symbols : List Method → List Symbol
declared_symbols [] = []
declared_symbols (m ∷ ms) = symbols_of m.term ++ declared_symbols ms

-- the names that stand in what is said of one
abbrev pub reply_symbols : Reply → List Symbol
reply_symbols (known g) = symbols_of g.term ++ declared_symbols g.methods
reply_symbols absent = []
reply_symbols broken = []

-- A type without what identity does not look at: places and doc comments are empty, receivers are no pointers.
use Rattle.std.specs.Prelude.{false, []}
use Rattle.gs_terms.specs.declared.symbol.Place.{Place}
use Rattle.gs_terms.specs.Term as term
use Rattle.gs_terms.specs.Term.{Term, Terms, Fields, Methods}

abbrev pub nowhere : Place
nowhere = record { «package» = []; file = []; offset = 0 }

abbrev mutual
  pub bare : Term → Term
  bare term.invalid = term.invalid
  bare (term.basic b) = term.basic b
  bare (term.named s) = term.named s
  bare (term.pointer t) = term.pointer (bare t)
  bare (term.slice t) = term.slice (bare t)
  bare (term.array n t) = term.array n (bare t)
  bare (term.map k t) = term.map (bare k) (bare t)
  bare (term.chan d t) = term.chan d (bare t)
  bare (term.struct fs) = term.struct (bare_fields fs)
  bare (term.func ps rs v) = term.func (bare_all ps) (bare_all rs) v
  bare (term.interface ms) = term.interface (bare_methods ms)
  bare (term.tuple ts) = term.tuple (bare_all ts)
  bare (term.untyped k) = term.untyped k
  bare term.nil = term.nil

  pub bare_all : Terms → Terms
  bare_all term.no_terms = term.no_terms
  bare_all (term.a_term t ts) = term.a_term (bare t) (bare_all ts)

  pub bare_fields : Fields → Fields
  bare_fields term.no_fields = term.no_fields
  bare_fields (term.a_field n p e g t at fs) = term.a_field n p e g (bare t) nowhere (bare_fields fs)

  pub bare_methods : Methods → Methods
  bare_methods term.no_methods = term.no_methods
  bare_methods (term.a_method n p x t at d ms) = term.a_method n p false (bare t) nowhere [] (bare_methods ms)

-- Types, members and selections in which names of a set alone stand.
use Rattle.std.specs.Prelude.{List}
use Rattle.gs_terms.specs.declared.symbol.Symbol.{Symbol}
use Rattle.gs_terms.specs.declared.term.Method.{Method}
use Rattle.gs_terms.specs.Term.{Term}
use Rattle.gs_ask.specs.declared.select.Selected.{Selected}
use Rattle.gs_ask.specs.declared.select.Selected.TheVariants as selected
use Rattle.gs_ask.specs.Stays.{EachIn}
use Rattle.gs_ask.specs.Symbols.{symbols_of, declared_symbols}

module _ (K : Symbol → Type 0) where
  abbrev pub TermIn : Term → Type 0
  TermIn t = EachIn K (symbols_of t)

  abbrev pub MethodsIn : List Method → Type 0
  MethodsIn ms = EachIn K (declared_symbols ms)

  abbrev pub SelectedIn : Selected → Type 0
  SelectedIn (selected.Field t p through) = TermIn t
  SelectedIn (selected.Method m through) = TermIn m.term
  SelectedIn selected.Two = Unit {0}
  SelectedIn selected.None = Unit {0}

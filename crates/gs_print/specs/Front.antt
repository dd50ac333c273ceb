-- The elements of a list but for the last, each with the mark that stands behind it.
use Rattle.std.specs.Prelude.{ℕ, List, ◌++◌, flat_map, codes}
use Rattle.gs_terms.specs.declared.term.FieldTerm.{FieldTerm}
use Rattle.gs_terms.specs.declared.term.Method.{Method}
use Rattle.gs_terms.specs.Term.{Term}
use Rattle.gs_print.specs.Text.{term_text, field_text, after_name}

abbrev pub field_written : List ℕ → FieldTerm → List ℕ
field_written own f = field_text f.embedded f.name (term_text own f.term)

abbrev pub method_written : List ℕ → Method → List ℕ
method_written own m = m.name ++ after_name m.term (term_text own m.term)

abbrev pub terms_front : List ℕ → List Term → List ℕ
terms_front own front = flat_map (λ t. term_text own t ++ codes ", ") front

abbrev pub fields_front : List ℕ → List FieldTerm → List ℕ
fields_front own front = flat_map (λ f. field_written own f ++ codes "; ") front

abbrev pub methods_front : List ℕ → List Method → List ℕ
methods_front own front = flat_map (λ m. method_written own m ++ codes "; ") front

-- The type that a node stands for.
use Rattle.std.specs.Prelude.{List, [], ◌∷◌}
use Rattle.gs_terms.specs.declared.term.Node.{Node}
use Rattle.gs_terms.specs.declared.term.Node.TheVariants as node
use Rattle.gs_terms.specs.declared.term.FieldTerm.{FieldTerm}
use Rattle.gs_terms.specs.declared.term.Method.{Method}
use Rattle.gs_terms.specs.Term.{Term, Terms, Fields, Methods, invalid, basic, named, pointer, slice, array, map, chan, struct, func, interface, tuple, untyped, nil, no_terms, a_term, no_fields, a_field, no_methods, a_method}

abbrev pub terms_of : List Term → Terms
terms_of [] = no_terms
terms_of (t ∷ ts) = a_term t (terms_of ts)

abbrev pub fields_of : List FieldTerm → Fields
fields_of [] = no_fields
fields_of (f ∷ fs) = a_field f.name f.package f.embedded f.tag f.term f.place (fields_of fs)

abbrev pub methods_of : List Method → Methods
methods_of [] = no_methods
methods_of (m ∷ ms) = a_method m.name m.package m.pointer m.term m.place m.doc (methods_of ms)

abbrev pub term_of : Node → Term
term_of node.Invalid = invalid
term_of (node.Basic b) = basic b
term_of (node.Named s) = named s
term_of (node.Pointer t) = pointer t.value
term_of (node.Slice t) = slice t.value
term_of (node.Array n t) = array n t.value
term_of (node.Map k t) = map k.value t.value
term_of (node.Chan d t) = chan d t.value
term_of (node.Struct fs) = struct (fields_of fs.items)
term_of (node.Func ps rs v) = func (terms_of ps.items) (terms_of rs.items) v
term_of (node.Interface ms) = interface (methods_of ms.items)
term_of (node.Tuple ts) = tuple (terms_of ts.items)
term_of (node.Untyped k) = untyped k
term_of node.Nil = nil

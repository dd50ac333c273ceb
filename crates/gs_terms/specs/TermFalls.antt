-- Each inner type is lighter than the type.
use Rattle.std.specs.Prelude.{◌+◌, ◌≤◌, max, List, [], ◌∷◌}
use Rattle.std.proofs.Common.{arith}
use denote.Param.Weighed.{most}
use Rattle.gs_terms.specs.declared.term.Node.{Node}
use Rattle.gs_terms.specs.declared.term.Node.TheVariants as node
use Rattle.gs_terms.specs.declared.term.FieldTerm.{FieldTerm}
use Rattle.gs_terms.specs.declared.term.Method.{Method}
use Rattle.gs_terms.specs.declared.term.Term.TheDeep.{deep-Node, deep-FieldTerm, deep-Method}
use Rattle.gs_terms.specs.Term.{Term, weight, terms_weight, fields_weight, methods_weight}
use Rattle.gs_terms.specs.Shown.{term_of, terms_of, fields_of, methods_of}

pub most_le-terms_weight : (ts : List Term) → most (λ t. weight t + 1) ts ≤ terms_weight (terms_of ts)
most_le-terms_weight [] = omega arith
most_le-terms_weight (t ∷ ts) = omega (arith, most_le-terms_weight ts)

pub most_le-fields_weight : (fs : List FieldTerm) → most deep-FieldTerm fs ≤ fields_weight (fields_of fs)
most_le-fields_weight [] = omega arith
most_le-fields_weight (f ∷ fs) = omega (arith, most_le-fields_weight fs)

pub most_le-methods_weight : (ms : List Method) → most deep-Method ms ≤ methods_weight (methods_of ms)
most_le-methods_weight [] = omega arith
most_le-methods_weight (m ∷ ms) = omega (arith, most_le-methods_weight ms)

pub deep_le-weight : (n : Node) → max (deep-Node n) 0 ≤ weight (term_of n)
deep_le-weight node.Invalid = omega arith
deep_le-weight (node.Basic b) = omega arith
deep_le-weight (node.Named s) = omega arith
deep_le-weight (node.Pointer t) = omega arith
deep_le-weight (node.Slice t) = omega arith
deep_le-weight (node.Array n t) = omega arith
deep_le-weight (node.Map k t) = omega arith
deep_le-weight (node.Chan d t) = omega arith
deep_le-weight (node.Struct fs) = omega (arith, most_le-fields_weight fs.items)
deep_le-weight (node.Func ps rs v) = omega (arith, most_le-terms_weight ps.items, most_le-terms_weight rs.items)
deep_le-weight (node.Interface ms) = omega (arith, most_le-methods_weight ms.items)
deep_le-weight (node.Tuple ts) = omega (arith, most_le-terms_weight ts.items)
deep_le-weight (node.Untyped k) = omega arith
deep_le-weight node.Nil = omega arith

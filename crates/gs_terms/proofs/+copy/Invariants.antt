use Rattle.std.proofs.Common.{◌≡◌, ◌+◌, ◌*◌, take}
use Rattle.gs_terms.specs.Term.{weight, terms_weight, fields_weight, methods_weight}
use Rattle.gs_terms.specs.Shown.{terms_of, fields_of, methods_of}
use Rattle.gs_terms.proofs.+copy.Given as goal

abbrev pub decreases-term::Term::copy : goal.decreases-term::Term::copy
decreases-term::Term::copy l = 2 * weight l.self.now

abbrev pub decreases-term::FieldTerm::copy : goal.decreases-term::FieldTerm::copy
decreases-term::FieldTerm::copy l = 2 * weight l.self.now.term + 1

abbrev pub decreases-term::Method::copy : goal.decreases-term::Method::copy
decreases-term::Method::copy l = 2 * weight l.self.now.term + 1

abbrev pub decreases-copy::copy_boxed : goal.decreases-copy::copy_boxed
decreases-copy::copy_boxed l = 2 * weight l.term.now.value + 1

abbrev pub decreases-copy::copy_terms : goal.decreases-copy::copy_terms
decreases-copy::copy_terms l = 2 * terms_weight (terms_of l.terms.now.items)

abbrev pub decreases-copy::copy_fields : goal.decreases-copy::copy_fields
decreases-copy::copy_fields l = 2 * fields_weight (fields_of l.fields.now.items)

abbrev pub decreases-copy::copy_methods : goal.decreases-copy::copy_methods
decreases-copy::copy_methods l = 2 * methods_weight (methods_of l.methods.now.items)

abbrev pub invariant-copy::copy_terms-loop-term : goal.invariant-copy::copy_terms-loop-term
invariant-copy::copy_terms-loop-term l = l.all.items ≡ take l.term-index l.terms.items

abbrev pub invariant-copy::copy_fields-loop-field : goal.invariant-copy::copy_fields-loop-field
invariant-copy::copy_fields-loop-field l = l.all.items ≡ take l.field-index l.fields.items

abbrev pub invariant-copy::copy_methods-loop-method : goal.invariant-copy::copy_methods-loop-method
invariant-copy::copy_methods-loop-method l = l.all.items ≡ take l.method-index l.methods.items

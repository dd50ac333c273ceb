use Rattle.std.proofs.Common.{◌≡◌, ◌+◌, ◌*◌, drop}
use Rattle.gs_terms.specs.Term.{weight, terms_weight, fields_weight, methods_weight}
use Rattle.gs_terms.specs.Shown.{terms_of, fields_of, methods_of}
use Rattle.gs_terms.specs.Identity as spec
use Rattle.gs_terms.proofs.identity.+identity.Given as goal

abbrev pub decreases-identical : goal.decreases-identical
decreases-identical l = 2 * weight l.a.now

abbrev pub decreases-same_field : goal.decreases-same_field
decreases-same_field l = 2 * weight l.x.now.term + 1

abbrev pub decreases-same_method : goal.decreases-same_method
decreases-same_method l = 2 * weight l.x.now.term + 1

abbrev pub decreases-identical_all : goal.decreases-identical_all
decreases-identical_all l = 2 * terms_weight (terms_of l.a.now)

abbrev pub decreases-identical_fields : goal.decreases-identical_fields
decreases-identical_fields l = 2 * fields_weight (fields_of l.a.now)

abbrev pub decreases-identical_methods : goal.decreases-identical_methods
decreases-identical_methods l = 2 * methods_weight (methods_of l.a.now)

abbrev pub invariant-identical_all-loop-i : goal.invariant-identical_all-loop-i
invariant-identical_all-loop-i l = spec.identical_all (terms_of l.a) (terms_of l.b) ≡ spec.identical_all (terms_of (drop l.i l.a)) (terms_of (drop l.i l.b))

abbrev pub invariant-identical_fields-loop-i : goal.invariant-identical_fields-loop-i
invariant-identical_fields-loop-i l = spec.identical_fields (fields_of l.a) (fields_of l.b) ≡ spec.identical_fields (fields_of (drop l.i l.a)) (fields_of (drop l.i l.b))

abbrev pub invariant-identical_methods-loop-i : goal.invariant-identical_methods-loop-i
invariant-identical_methods-loop-i l = spec.identical_methods (methods_of l.a) (methods_of l.b) ≡ spec.identical_methods (methods_of (drop l.i l.a)) (methods_of (drop l.i l.b))

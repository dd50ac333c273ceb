use Rattle.std.proofs.Common.{◌≡◌, ◌+◌, ◌*◌, ◌++◌, take, string_bytes}
use Rattle.gs_terms.specs.Term.{weight, terms_weight, fields_weight, methods_weight}
use Rattle.gs_terms.specs.Shown.{terms_of, fields_of, methods_of}
use Rattle.gs_print.specs.Front.{terms_front, fields_front, methods_front}
use Rattle.gs_print.proofs.text.+write.Given as goal

abbrev pub decreases-write_term : goal.decreases-write_term
decreases-write_term l = 8 * weight l.term.now

abbrev pub decreases-write_marked : goal.decreases-write_marked
decreases-write_marked l = 8 * weight l.term.now + 1

abbrev pub decreases-write_enclosed : goal.decreases-write_enclosed
decreases-write_enclosed l = 8 * weight l.term.now + 1

abbrev pub decreases-write_before : goal.decreases-write_before
decreases-write_before l = 8 * weight l.term.now + 1

abbrev pub decreases-write_array : goal.decreases-write_array
decreases-write_array l = 8 * weight l.element.now + 1

abbrev pub decreases-write_map : goal.decreases-write_map
decreases-write_map l = 8 * (weight l.key.now + weight l.element.now) + 1

abbrev pub decreases-write_chan : goal.decreases-write_chan
decreases-write_chan l = 8 * weight l.element.now + 2

abbrev pub decreases-write_struct : goal.decreases-write_struct
decreases-write_struct l = 8 * fields_weight (fields_of l.fields.now) + 3

abbrev pub decreases-write_fields : goal.decreases-write_fields
decreases-write_fields l = 8 * fields_weight (fields_of l.fields.now) + 2

abbrev pub decreases-write_front_fields : goal.decreases-write_front_fields
decreases-write_front_fields l = 8 * fields_weight (fields_of l.front.now) + 1

abbrev pub decreases-write_field : goal.decreases-write_field
decreases-write_field l = 8 * weight l.field.now.term + 2

abbrev pub decreases-write_interface : goal.decreases-write_interface
decreases-write_interface l = 8 * methods_weight (methods_of l.methods.now) + 3

abbrev pub decreases-write_methods : goal.decreases-write_methods
decreases-write_methods l = 8 * methods_weight (methods_of l.methods.now) + 2

abbrev pub decreases-write_front_methods : goal.decreases-write_front_methods
decreases-write_front_methods l = 8 * methods_weight (methods_of l.front.now) + 1

abbrev pub decreases-write_method : goal.decreases-write_method
decreases-write_method l = 8 * weight l.method.now.term + 3

abbrev pub decreases-write_after_name : goal.decreases-write_after_name
decreases-write_after_name l = 8 * weight l.term.now + 2

abbrev pub decreases-write_func : goal.decreases-write_func
decreases-write_func l = 8 * (terms_weight (terms_of l.params.now) + terms_weight (terms_of l.results.now)) + 7

abbrev pub decreases-write_signature : goal.decreases-write_signature
decreases-write_signature l = 8 * (terms_weight (terms_of l.params.now) + terms_weight (terms_of l.results.now)) + 6

abbrev pub decreases-write_results : goal.decreases-write_results
decreases-write_results l = 8 * terms_weight (terms_of l.results.now) + 5

abbrev pub decreases-write_several : goal.decreases-write_several
decreases-write_several l = 8 * terms_weight (terms_of l.results.now) + 4

abbrev pub decreases-write_params : goal.decreases-write_params
decreases-write_params l = 8 * terms_weight (terms_of l.params.now) + 3

abbrev pub decreases-write_list : goal.decreases-write_list
decreases-write_list l = 8 * terms_weight (terms_of l.params.now) + 2

abbrev pub decreases-write_front : goal.decreases-write_front
decreases-write_front l = 8 * terms_weight (terms_of l.front.now) + 1

abbrev pub decreases-write_last : goal.decreases-write_last
decreases-write_last l = 8 * weight l.term.now + 3

abbrev pub decreases-write_rest : goal.decreases-write_rest
decreases-write_rest l = 8 * weight l.term.now + 2

abbrev pub invariant-write_front-loop-term : goal.invariant-write_front-loop-term
invariant-write_front-loop-term l = string_bytes l.out ≡ string_bytes l.initial.out ++ terms_front l.own (take l.term-index l.front)

abbrev pub invariant-write_front_fields-loop-field : goal.invariant-write_front_fields-loop-field
invariant-write_front_fields-loop-field l = string_bytes l.out ≡ string_bytes l.initial.out ++ fields_front l.own (take l.field-index l.front)

abbrev pub invariant-write_front_methods-loop-method : goal.invariant-write_front_methods-loop-method
invariant-write_front_methods-loop-method l = string_bytes l.out ≡ string_bytes l.initial.out ++ methods_front l.own (take l.method-index l.front)

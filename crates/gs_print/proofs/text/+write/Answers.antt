use Rattle.std.proofs.Common.{◌++◌, ◌∙◌, List, [], ap, arith, string_bytes, codes, if◌then◌else◌}
use Rattle.gs_terms.specs.declared.term.FieldTerm.{FieldTerm}
use Rattle.gs_terms.specs.declared.term.Method.{Method}
use Rattle.gs_terms.specs.Term.{Term, terms_weight, fields_weight, methods_weight}
use Rattle.gs_terms.specs.Shown.{terms_of, fields_of, methods_of}
use Rattle.gs_print.specs.Text.{joined, term_text, param_texts, field_texts, method_texts, last_text}
use Rattle.gs_print.specs.Front.{terms_front, fields_front, methods_front, field_written, method_written}
use Rattle.gs_print.proofs.Lists.{params_written, fields_written, methods_written, last_written, terms_split, fields_split, methods_split, positive, fields_positive, methods_positive, term_lighter, field_lighter, method_lighter}
use Rattle.gs_print.proofs.text.+write.Goals as goal

pub write_list-write_front-requires : goal.write_list-write_front-requires
write_list-write_front-requires t c =
    (omega (arith, c.requires.1.0, ap (λ (ps : List Term). terms_weight (terms_of ps)) c.in-Some.ensures.cases.0, terms_split c.in-Some.front.now c.in-Some.last.now, positive c.in-Some.front.now), tt)

pub write_list-write_last-requires : goal.write_list-write_last-requires
write_list-write_last-requires t c =
    (omega (arith, c.requires.1.0, ap (λ (ps : List Term). terms_weight (terms_of ps)) c.in-Some.ensures.cases.0, terms_split c.in-Some.front.now c.in-Some.last.now, positive c.in-Some.front.now), tt)

pub write_list-returns-in_ok-write_front-in-Some : goal.write_list-returns-in_ok-write_front-in-Some
write_list-returns-in_ok-write_front-in-Some t c =
    last_written c.write_last.result (string_bytes c.args.out.now) (string_bytes c.write_front.new.out) (string_bytes c.write_last.new.out)
    (terms_front c.args.own.now c.in-Some.front.now) (if c.args.variadic then last_text c.in-Some.last.now (term_text c.args.own.now c.in-Some.last.now) else term_text c.args.own.now c.in-Some.last.now)
    (joined (codes ", ") (param_texts c.args.own.now (terms_of c.args.params.now) c.args.variadic))
    c.in_ok-write_front-in-Some.ensures
    (ap (λ (ps : List Term). joined (codes ", ") (param_texts c.args.own.now (terms_of ps) c.args.variadic)) c.in-Some.ensures.cases.0 ∙ params_written c.args.own.now c.in-Some.front.now c.in-Some.last.now c.args.variadic)
    c.write_last.ensures

pub write_fields-write_front_fields-requires : goal.write_fields-write_front_fields-requires
write_fields-write_front_fields-requires t c =
    (omega (arith, c.requires.1.0, ap (λ (ps : List FieldTerm). fields_weight (fields_of ps)) c.in-Some.ensures.cases.0, fields_split c.in-Some.front.now c.in-Some.last.now, fields_positive c.in-Some.front.now), tt)

pub write_fields-write_field-requires : goal.write_fields-write_field-requires
write_fields-write_field-requires t c =
    (omega (arith, c.requires.1.0, ap (λ (ps : List FieldTerm). fields_weight (fields_of ps)) c.in-Some.ensures.cases.0, fields_split c.in-Some.front.now c.in-Some.last.now, fields_positive c.in-Some.front.now), tt)

pub write_fields-returns-in_ok-write_front_fields-in-Some : goal.write_fields-returns-in_ok-write_front_fields-in-Some
write_fields-returns-in_ok-write_front_fields-in-Some t c =
    last_written c.write_field.result (string_bytes c.args.out.now) (string_bytes c.write_front_fields.new.out) (string_bytes c.write_field.new.out)
    (fields_front c.args.own.now c.in-Some.front.now) (field_written c.args.own.now c.in-Some.last.now ++ [])
    (joined (codes "; ") (field_texts c.args.own.now (fields_of c.args.fields.now)))
    c.in_ok-write_front_fields-in-Some.ensures
    (ap (λ (ps : List FieldTerm). joined (codes "; ") (field_texts c.args.own.now (fields_of ps))) c.in-Some.ensures.cases.0 ∙ fields_written c.args.own.now c.in-Some.front.now c.in-Some.last.now)
    c.write_field.ensures

pub write_methods-write_front_methods-requires : goal.write_methods-write_front_methods-requires
write_methods-write_front_methods-requires t c =
    (omega (arith, c.requires.1.0, ap (λ (ps : List Method). methods_weight (methods_of ps)) c.in-Some.ensures.cases.0, methods_split c.in-Some.front.now c.in-Some.last.now, methods_positive c.in-Some.front.now), tt)

pub write_methods-write_method-requires : goal.write_methods-write_method-requires
write_methods-write_method-requires t c =
    (omega (arith, c.requires.1.0, ap (λ (ps : List Method). methods_weight (methods_of ps)) c.in-Some.ensures.cases.0, methods_split c.in-Some.front.now c.in-Some.last.now, methods_positive c.in-Some.front.now), tt)

pub write_methods-returns-in_ok-write_front_methods-in-Some : goal.write_methods-returns-in_ok-write_front_methods-in-Some
write_methods-returns-in_ok-write_front_methods-in-Some t c =
    last_written c.write_method.result (string_bytes c.args.out.now) (string_bytes c.write_front_methods.new.out) (string_bytes c.write_method.new.out)
    (methods_front c.args.own.now c.in-Some.front.now) (method_written c.args.own.now c.in-Some.last.now ++ [])
    (joined (codes "; ") (method_texts c.args.own.now (methods_of c.args.methods.now)))
    c.in_ok-write_front_methods-in-Some.ensures
    (ap (λ (ps : List Method). joined (codes "; ") (method_texts c.args.own.now (methods_of ps))) c.in-Some.ensures.cases.0 ∙ methods_written c.args.own.now c.in-Some.front.now c.in-Some.last.now)
    c.write_method.ensures

pub write_front-write_before-requires : goal.write_front-write_before-requires
write_front-write_before-requires t c =
    (omega (arith, c.requires.1.0, term_lighter c.args.front.now c.loop-term.term-index c.term-item.result c.loop-term-test.true c.term-item.is), tt)

pub write_front_fields-write_field-requires : goal.write_front_fields-write_field-requires
write_front_fields-write_field-requires t c =
    (omega (arith, c.requires.1.0, field_lighter c.args.front.now c.loop-field.field-index c.field-item.result c.loop-field-test.true c.field-item.is), tt)

pub write_front_methods-write_method-requires : goal.write_front_methods-write_method-requires
write_front_methods-write_method-requires t c =
    (omega (arith, c.requires.1.0, method_lighter c.args.front.now c.loop-method.method-index c.method-item.result c.loop-method-test.true c.method-item.is), tt)

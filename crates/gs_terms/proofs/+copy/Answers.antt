use Rattle.std.proofs.Common.{◌<◌, List, subst, arith}
use Rattle.gs_terms.specs.declared.term.FieldTerm.{FieldTerm}
use Rattle.gs_terms.specs.declared.term.Method.{Method}
use Rattle.gs_terms.specs.Term.{Term, weight, terms_weight, fields_weight, methods_weight}
use Rattle.gs_terms.specs.Shown.{terms_of, fields_of, methods_of}
use Rattle.gs_terms.proofs.Members.{weight-term, weight-field, weight-method}
use Rattle.gs_terms.proofs.+copy.Goals as goal

pub copy::copy_terms-copy-requires : goal.copy::copy_terms-copy-requires
copy::copy_terms-copy-requires t c =
    let P : List Term → Type 0 = λ ts. weight c.term-item.result < terms_weight (terms_of ts) in
    let lighter : P c.args.terms.now.items = subst P c.deref-term-items.ensures.value (weight-term c.deref-term-items.result.now c.loop-term.term-index c.term-item.result c.loop-term-test.true c.term-item.is) in
    (omega (arith, c.decreases, lighter), tt)

pub copy::copy_fields-copy-requires : goal.copy::copy_fields-copy-requires
copy::copy_fields-copy-requires t c =
    let P : List FieldTerm → Type 0 = λ fs. weight c.field-item.result.term < fields_weight (fields_of fs) in
    let lighter : P c.args.fields.now.items = subst P c.deref-field-items.ensures.value (weight-field c.deref-field-items.result.now c.loop-field.field-index c.field-item.result c.loop-field-test.true c.field-item.is) in
    (omega (arith, c.decreases, lighter), tt)

pub copy::copy_methods-copy-requires : goal.copy::copy_methods-copy-requires
copy::copy_methods-copy-requires t c =
    let P : List Method → Type 0 = λ ms. weight c.method-item.result.term < methods_weight (methods_of ms) in
    let lighter : P c.args.methods.now.items = subst P c.deref-method-items.ensures.value (weight-method c.deref-method-items.result.now c.loop-method.method-index c.method-item.result c.loop-method-test.true c.method-item.is) in
    (omega (arith, c.decreases, lighter), tt)

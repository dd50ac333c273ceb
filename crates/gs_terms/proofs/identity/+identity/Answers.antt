use Rattle.std.proofs.Common.{sym, arith}
use Rattle.gs_terms.specs.Shown.{terms_of, fields_of, methods_of}
use Rattle.gs_terms.specs.Identity.{identical, identical_all, identical_fields, identical_methods, same_field, same_method}
use Rattle.gs_terms.proofs.Members.{weight-term, weight-field, weight-method}
use Rattle.gs_terms.proofs.Walks.{unequal, of_terms, of_fields, of_methods}
use Rattle.gs_terms.proofs.identity.+identity.Goals as goal

pub identical_all-returns-then-a-b : goal.identical_all-returns-then-a-b
identical_all-returns-then-a-b t c =
    sym (unequal (λ xs ys. identical_all (terms_of xs) (terms_of ys)) identical of_terms c.args.a.now c.args.b.now c.if-a-b.true)

pub identical_all-identical-requires : goal.identical_all-identical-requires
identical_all-identical-requires t c =
    (omega (arith, c.decreases, weight-term c.args.a.now c.loop-i.i c.index-a-i.result c.loop-i-test.true c.index-a-i.is), tt)

pub identical_fields-returns-then-a-b : goal.identical_fields-returns-then-a-b
identical_fields-returns-then-a-b t c =
    sym (unequal (λ xs ys. identical_fields (fields_of xs) (fields_of ys)) same_field of_fields c.args.a.now c.args.b.now c.if-a-b.true)

pub identical_fields-same_field-requires : goal.identical_fields-same_field-requires
identical_fields-same_field-requires t c =
    (omega (arith, c.decreases, weight-field c.args.a.now c.loop-i.i c.index-a-i.result c.loop-i-test.true c.index-a-i.is), tt)

pub identical_methods-returns-then-a-b : goal.identical_methods-returns-then-a-b
identical_methods-returns-then-a-b t c =
    sym (unequal (λ xs ys. identical_methods (methods_of xs) (methods_of ys)) same_method of_methods c.args.a.now c.args.b.now c.if-a-b.true)

pub identical_methods-same_method-requires : goal.identical_methods-same_method-requires
identical_methods-same_method-requires t c =
    (omega (arith, c.decreases, weight-method c.args.a.now c.loop-i.i c.index-a-i.result c.loop-i-test.true c.index-a-i.is), tt)

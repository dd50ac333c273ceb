use Rattle.std.proofs.Common.{refl}
use Rattle.gs_terms.proofs.UniverseLaws.{at, in_1, in_2, in_3, in_4, in_5, in_6}
use Rattle.gs_terms.specs.Universe.{signed_integers, unsigned_integers, other_types, constants, collection_functions, other_functions}
use Rattle.gs_terms.proofs.predeclared.universe.Goals as goal

pub returns-in-Some : goal.returns-in-Some
returns-in-Some c =
    in_1 c.args.name.now c.in-Some.known
    (at signed_integers c.args.name.now c.as_bytes-name.result.now c.signed_integer.result _ c.as_bytes-name.ensures.value c.signed_integer.ensures c.in-Some.is)

pub returns-in-Some-unsigned_integer : goal.returns-in-Some-unsigned_integer
returns-in-Some-unsigned_integer c =
    in_2 c.args.name.now c.in-Some-unsigned_integer.known
    (at signed_integers c.args.name.now c.as_bytes-name.result.now c.signed_integer.result _ c.as_bytes-name.ensures.value c.signed_integer.ensures c.in_default.is)
    (at unsigned_integers c.args.name.now c.as_bytes-name.result.now c.unsigned_integer.result _ c.as_bytes-name.ensures.value c.unsigned_integer.ensures c.in-Some-unsigned_integer.is)

pub returns-in-Some-other_type : goal.returns-in-Some-other_type
returns-in-Some-other_type c =
    in_3 c.args.name.now c.in-Some-other_type.known
    (at signed_integers c.args.name.now c.as_bytes-name.result.now c.signed_integer.result _ c.as_bytes-name.ensures.value c.signed_integer.ensures c.in_default.is)
    (at unsigned_integers c.args.name.now c.as_bytes-name.result.now c.unsigned_integer.result _ c.as_bytes-name.ensures.value c.unsigned_integer.ensures c.in_default-unsigned_integer.is)
    (at other_types c.args.name.now c.as_bytes-name.result.now c.other_type.result _ c.as_bytes-name.ensures.value c.other_type.ensures c.in-Some-other_type.is)

pub returns-in-Some-constant : goal.returns-in-Some-constant
returns-in-Some-constant c =
    in_4 c.args.name.now c.in-Some-constant.known
    (at signed_integers c.args.name.now c.as_bytes-name.result.now c.signed_integer.result _ c.as_bytes-name.ensures.value c.signed_integer.ensures c.in_default.is)
    (at unsigned_integers c.args.name.now c.as_bytes-name.result.now c.unsigned_integer.result _ c.as_bytes-name.ensures.value c.unsigned_integer.ensures c.in_default-unsigned_integer.is)
    (at other_types c.args.name.now c.as_bytes-name.result.now c.other_type.result _ c.as_bytes-name.ensures.value c.other_type.ensures c.in_default-other_type.is)
    (at constants c.args.name.now c.as_bytes-name.result.now c.constant.result _ c.as_bytes-name.ensures.value c.constant.ensures c.in-Some-constant.is)

pub returns-in-Some-collection_function : goal.returns-in-Some-collection_function
returns-in-Some-collection_function c =
    in_5 c.args.name.now c.in-Some-collection_function.known
    (at signed_integers c.args.name.now c.as_bytes-name.result.now c.signed_integer.result _ c.as_bytes-name.ensures.value c.signed_integer.ensures c.in_default.is)
    (at unsigned_integers c.args.name.now c.as_bytes-name.result.now c.unsigned_integer.result _ c.as_bytes-name.ensures.value c.unsigned_integer.ensures c.in_default-unsigned_integer.is)
    (at other_types c.args.name.now c.as_bytes-name.result.now c.other_type.result _ c.as_bytes-name.ensures.value c.other_type.ensures c.in_default-other_type.is)
    (at constants c.args.name.now c.as_bytes-name.result.now c.constant.result _ c.as_bytes-name.ensures.value c.constant.ensures c.in_default-constant.is)
    (at collection_functions c.args.name.now c.as_bytes-name.result.now c.collection_function.result _ c.as_bytes-name.ensures.value c.collection_function.ensures c.in-Some-collection_function.is)

pub returns : goal.returns
returns c =
    in_6 c.args.name.now c.other_function.result
    (at signed_integers c.args.name.now c.as_bytes-name.result.now c.signed_integer.result _ c.as_bytes-name.ensures.value c.signed_integer.ensures c.in_default.is)
    (at unsigned_integers c.args.name.now c.as_bytes-name.result.now c.unsigned_integer.result _ c.as_bytes-name.ensures.value c.unsigned_integer.ensures c.in_default-unsigned_integer.is)
    (at other_types c.args.name.now c.as_bytes-name.result.now c.other_type.result _ c.as_bytes-name.ensures.value c.other_type.ensures c.in_default-other_type.is)
    (at constants c.args.name.now c.as_bytes-name.result.now c.constant.result _ c.as_bytes-name.ensures.value c.constant.ensures c.in_default-constant.is)
    (at collection_functions c.args.name.now c.as_bytes-name.result.now c.collection_function.result _ c.as_bytes-name.ensures.value c.collection_function.ensures c.in_default-collection_function.is)
    (at other_functions c.args.name.now c.as_bytes-name.result.now c.other_function.result _ c.as_bytes-name.ensures.value c.other_function.ensures refl)

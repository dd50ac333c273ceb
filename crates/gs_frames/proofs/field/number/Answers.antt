use Rattle.std.proofs.Common.{◌∙◌, ap, refl}
use Rattle.std.specs.Result.{result_ok}
use Rattle.std.specs.Str.Parse.{digits_value}
use Rattle.gs_frames.proofs.Bytes.{number_utf8, number_parsed}
use Rattle.gs_frames.proofs.field.number.Goals as goal

pub returns-in-Ok : goal.returns-in-Ok
returns-in-Ok c =
    let is = c.if-not-is_number.ensures.0 refl in
    let same = c.in-Ok.ensures.cases.0 in
    let parsed = number_parsed c.in-Ok.digits.now c.parse.result c.parse.ensures.value.0 (rw same is) in
    rw (c.ok.ensures.value ∙ ap result_ok parsed) (is, ap (digits_value 10) same)

pub returns-in-Err : goal.returns-in-Err
returns-in-Err c = λ h. c.in-Err.ensures.cases.0 (number_utf8 c.args.text.now h)

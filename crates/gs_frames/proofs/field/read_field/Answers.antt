use Rattle.std.proofs.Common.{refl, sym, ◌∙◌, ap}
use Rattle.gs_frames.specs.Header.{without_blanks_behind}
use Rattle.gs_frames.proofs.FieldLemmas.{other, length_field, no_number}
use Rattle.gs_frames.proofs.field.read_field.Goals as goal

pub returns-then-not-names_length : goal.returns-then-not-names_length
returns-then-not-names_length c =
    let text = c.if-not-is_text.ensures.0 refl in
    other c.args.line.now c.in-Some.name.now c.in-Some.value.now text.0 c.requires text.1 c.in-Some.ensures (sym c.names_length.ensures ∙ c.if-not-names_length.true)

pub returns-in-Some-number : goal.returns-in-Some-number
returns-in-Some-number c =
    let text = c.if-not-is_text.ensures.0 refl in
    let value = c.cut_blanks.ensures ∙ ap without_blanks_behind c.skip_blanks.ensures in
    let is = rw value at c.in-Some-number.ensures in
    length_field c.args.line.now c.in-Some.name.now c.in-Some.value.now c.in-Some-number.n text.0 c.requires text.1 c.in-Some.ensures (sym c.names_length.ensures ∙ c.if-not-names_length.false) is.0 is.1

pub returns-in-None : goal.returns-in-None
returns-in-None c =
    let value = c.cut_blanks.ensures ∙ ap without_blanks_behind c.skip_blanks.ensures in
    no_number c.args.line.now c.in-Some.name.now c.in-Some.value.now c.in-Some.ensures (sym c.names_length.ensures ∙ c.if-not-names_length.false) (rw value at c.in-None.ensures)

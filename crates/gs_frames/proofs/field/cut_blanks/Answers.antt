use Rattle.std.proofs.Common.{sym, ◌∙◌, ap}
use Rattle.gs_frames.specs.Header.{without_blanks_behind}
use Rattle.gs_frames.proofs.Bytes.{behind_blank, behind_other}
use Rattle.gs_frames.proofs.field.cut_blanks.Goals as goal

pub returns-then-not-is_blank : goal.returns-then-not-is_blank
returns-then-not-is_blank c =
    let whole = c.in-Some.ensures.cases.0 in
    whole ∙ (sym (behind_other c.in-Some.front.now c.in-Some.last.now (sym c.is_blank.ensures ∙ c.if-not-is_blank.true)) ∙ (ap without_blanks_behind (sym whole) ∙ c.loop-last.invariant))

pub loop-last-preserved : goal.loop-last-preserved
loop-last-preserved c =
    let whole = c.in-Some.ensures.cases.0 in
    sym (behind_blank c.in-Some.front.now c.in-Some.last.now (sym c.is_blank.ensures ∙ c.if-not-is_blank.false)) ∙ (ap without_blanks_behind (sym whole) ∙ c.loop-last.invariant)

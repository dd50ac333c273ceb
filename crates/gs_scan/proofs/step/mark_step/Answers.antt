use Rattle.std.proofs.Common.{◌≡◌, get_or, sym, ◌∙◌, ap, subst, arith}
use Rattle.std.specs.Str.{IsCharBoundary}
use Rattle.gs_scan.specs.Marks.{operator_at}
use Rattle.gs_scan.proofs.MarkLemmas.{read_at}
use Rattle.gs_scan.proofs.StandingMarks.{only_marks, mark_stands, mark_boundary, stray_stands, stray_boundary}
use Rattle.gs_scan.proofs.StepLemmas.{token_adds}
use Rattle.gs_scan.proofs.step.mark_step.Goals as goal
use Rattle.gs_scan.proofs.step.mark_step.Goals.{After-operator_at}

read : (c : After-operator_at) → read_at c.args.rest.now ≡ c.operator_at.result
read c =
    let same = c.as_bytes-bytes.ensures.value in
    sym (c.operator_at.ensures ∙ (λ i. operator_at
    ((c.byte_at.ensures ∙ ap (λ l. get_or l 0 0) same) i)
    ((c.byte_at-2.ensures ∙ ap (λ l. get_or l 1 0) same) i)
    ((c.byte_at-3.ensures ∙ ap (λ l. get_or l 2 0) same) i)))

pub add-requires : goal.add-requires
add-requires c =
    let within = (mark_boundary _ _ _ c.utf8.rest (read (goal.at.add-requires c).After-operator_at ∙ c.in-Some.is)).0 in
    omega (arith, within, c.requires.fits)

pub returns-in_ok-add-in-Some-clause-adds : goal.returns-in_ok-add-in-Some-clause-adds
returns-in_ok-add-in-Some-clause-adds c =
    let done = c.in_ok-add-in-Some.ensures in
    token_adds _ _ _ _ _ _ _ _ done.len (mark_stands _ _ _ (only_marks _ c.requires.some c.requires.class) (read (goal.at.returns-in_ok-add-in-Some-clause-adds c).After-operator_at ∙ c.in-Some.is)) done.added done.end

pub returns-in_ok-add-in-Some-clause-boundary : goal.returns-in_ok-add-in-Some-clause-boundary
returns-in_ok-add-in-Some-clause-boundary c =
    subst (IsCharBoundary c.args.rest.now) (sym c.in_ok-add-in-Some.ensures.len) (mark_boundary _ _ _ c.utf8.rest (read (goal.at.returns-in_ok-add-in-Some-clause-boundary c).After-operator_at ∙ c.in-Some.is))

pub returns-in_ok-add-in-None-clause-adds : goal.returns-in_ok-add-in-None-clause-adds
returns-in_ok-add-in-None-clause-adds c =
    let done = c.in_ok-add-in-None.ensures in
    token_adds _ _ _ _ _ _ _ _ done.len (stray_stands _ (only_marks _ c.requires.some c.requires.class) (read (goal.at.returns-in_ok-add-in-None-clause-adds c).After-operator_at ∙ c.in-None.is)) done.added done.end

pub returns-in_ok-add-in-None-clause-boundary : goal.returns-in_ok-add-in-None-clause-boundary
returns-in_ok-add-in-None-clause-boundary c =
    subst (IsCharBoundary c.args.rest.now) (sym c.in_ok-add-in-None.ensures.len) (stray_boundary _ c.utf8.rest (only_marks _ c.requires.some c.requires.class))

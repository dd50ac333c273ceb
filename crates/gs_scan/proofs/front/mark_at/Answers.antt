use Rattle.std.proofs.Common.{◌≡◌, get_or, sym, ◌∙◌, ap}
use Rattle.gs_scan.specs.Marks.{operator_at}
use Rattle.gs_scan.proofs.MarkLemmas.{read_at}
use Rattle.gs_scan.proofs.StandingMarks.{mark_stands, mark_boundary, stray_stands, stray_boundary}
use Rattle.gs_scan.proofs.front.mark_at.Goals as goal
use Rattle.gs_scan.proofs.front.mark_at.Goals.{After-operator_at, In-Some, In-None}

read : (c : After-operator_at) → read_at c.args.rest.now ≡ c.operator_at.result
read c =
    let same = c.as_bytes-bytes.ensures.value in
    sym (c.operator_at.ensures ∙ (λ i. operator_at
    ((c.byte_at.ensures ∙ ap (λ l. get_or l 0 0) same) i)
    ((c.byte_at-2.ensures ∙ ap (λ l. get_or l 1 0) same) i)
    ((c.byte_at-3.ensures ∙ ap (λ l. get_or l 2 0) same) i)))

pub returns-in-Some-clause-stands : goal.returns-in-Some-clause-stands
returns-in-Some-clause-stands c = mark_stands _ _ _ c.requires (read (goal.at.returns-in-Some-clause-stands c).After-operator_at ∙ c.in-Some.is)

pub returns-in-Some-clause-boundary : goal.returns-in-Some-clause-boundary
returns-in-Some-clause-boundary c = mark_boundary _ _ _ c.utf8.rest (read (goal.at.returns-in-Some-clause-boundary c).After-operator_at ∙ c.in-Some.is)

pub returns-in-None-clause-stands : goal.returns-in-None-clause-stands
returns-in-None-clause-stands c = stray_stands _ c.requires (read (goal.at.returns-in-None-clause-stands c).After-operator_at ∙ c.in-None.is)

pub returns-in-None-clause-boundary : goal.returns-in-None-clause-boundary
returns-in-None-clause-boundary c = stray_boundary _ c.utf8.rest c.requires

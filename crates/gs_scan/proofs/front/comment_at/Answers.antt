use Rattle.std.proofs.Common.{◌≡◌, ◌+◌, take, drop, sym, ◌∙◌, ap, refl, inl, inr, subst, Some}
use Rattle.std.specs.Prelude.{Contains}
use Rattle.std.proofs.lemmas.Bool.{false≢true}
use Rattle.gs_scan.specs.Reading.{close_from}
use Rattle.gs_scan.proofs.StandingComments.{comment_stands, comment_boundary, open_stands}
use Rattle.gs_scan.proofs.front.comment_at.Goals as goal
use Rattle.gs_scan.proofs.front.comment_at.Goals.{In-Some}

closes : (c : In-Some) → close_from 0 (drop 2 c.args.bytes.now) ≡ Some c.in-Some.end
closes c = sym (c.in-Some.ensures.value ∙ ap (close_from 0) c.split_at.ensures.back)

pub returns-in_default-clause-stands : goal.returns-in_default-clause-stands
returns-in_default-clause-stands c =
    open_stands c.args.bytes.now (drop 2 c.args.bytes.now) _ c.requires.whole (sym (c.in_default.ensures.value ∙ ap (close_from 0) c.split_at.ensures.back)) refl

pub returns-then-has_line-clause-stands : goal.returns-then-has_line-clause-stands
returns-then-has_line-clause-stands c =
    let has = subst (λ l. Contains l 10) c.split_at-2.ensures.front (c.if-has_line.ensures.0 refl) in
    comment_stands c.args.bytes.now (drop 2 c.args.bytes.now) c.in-Some.end _ _ c.requires.whole (closes (goal.at.returns-then-has_line-clause-stands c).In-Some) refl
    (λ h. refl) (λ none. absurd (none has)) (inl has)

pub returns-then-has_line-clause-boundary : goal.returns-then-has_line-clause-boundary
returns-then-has_line-clause-boundary c = λ utf8. comment_boundary c.args.bytes.now (drop 2 c.args.bytes.now) c.in-Some.end _ utf8 c.requires.whole (closes (goal.at.returns-then-has_line-clause-boundary c).In-Some) refl

pub returns-else-has_line-clause-stands : goal.returns-else-has_line-clause-stands
returns-else-has_line-clause-stands c =
    let none : Contains (take (2 + c.in-Some.end) c.args.bytes.now) 10 → ⊥ = λ has. false≢true (c.if-has_line.ensures.1 (subst (λ l. Contains l 10) (sym c.split_at-2.ensures.front) has)) in
    comment_stands c.args.bytes.now (drop 2 c.args.bytes.now) c.in-Some.end _ _ c.requires.whole (closes (goal.at.returns-else-has_line-clause-stands c).In-Some) refl
    (λ h. absurd (none h)) (λ n. refl) (inr none)

pub returns-else-has_line-clause-boundary : goal.returns-else-has_line-clause-boundary
returns-else-has_line-clause-boundary c = λ utf8. comment_boundary c.args.bytes.now (drop 2 c.args.bytes.now) c.in-Some.end _ utf8 c.requires.whole (closes (goal.at.returns-else-has_line-clause-boundary c).In-Some) refl

use Rattle.std.proofs.Common.{◌≡◌, get_or, sym, ◌∙◌, ap, refl}
use Rattle.std.proofs.lemmas.Result.{IfOk-weaker}
use Rattle.gs_scan.specs.declared.class.Class.TheVariants as class
use Rattle.gs_scan.specs.Reading.{class_of}
use Rattle.gs_scan.proofs.StandingBlanks.{space_stands, line_stands, byte_boundary}
use Rattle.gs_scan.proofs.StepLemmas.{space_step, line_step, token_step}
use Rattle.gs_scan.proofs.step.step_at.Goals as goal
use Rattle.gs_scan.proofs.step.step_at.Goals.{After-class_of}

first : (c : After-class_of) → class_of (get_or c.args.rest.now 0 0) ≡ c.class_of.result
first c = sym (c.class_of.ensures ∙ ap class_of (c.byte_at.ensures ∙ ap (λ l. get_or l 0 0) c.as_bytes.ensures.value))

pub returns-in-Space-clause-adds : goal.returns-in-Space-clause-adds
returns-in-Space-clause-adds c =
    let is_space = first (goal.at.returns-in-Space-clause-adds c).After-class_of ∙ c.in-Space.is in
    space_step c.args.rest.now c.args.at c.args.end c.args.found.now (space_stands c.args.rest.now c.requires.some is_space) is_space

pub returns-in-Space-clause-boundary : goal.returns-in-Space-clause-boundary
returns-in-Space-clause-boundary c = byte_boundary c.args.rest.now class.Space c.utf8.rest c.requires.some refl (first (goal.at.returns-in-Space-clause-boundary c).After-class_of ∙ c.in-Space.is)

pub returns-in_ok-insert-in-LineFeed-clause-adds : goal.returns-in_ok-insert-in-LineFeed-clause-adds
returns-in_ok-insert-in-LineFeed-clause-adds c =
    line_step c.args.rest.now c.args.at c.args.end c.args.found.now (record c.args.found.now { tokens = c.insert.new.tokens }) (line_stands c.args.rest.now c.requires.some (first (goal.at.returns-in_ok-insert-in-LineFeed-clause-adds c).After-class_of ∙ c.in-LineFeed.is)) refl c.in_ok-insert-in-LineFeed.ensures

pub returns-in_ok-insert-in-LineFeed-clause-boundary : goal.returns-in_ok-insert-in-LineFeed-clause-boundary
returns-in_ok-insert-in-LineFeed-clause-boundary c = byte_boundary c.args.rest.now class.LineFeed c.utf8.rest c.requires.some refl (first (goal.at.returns-in_ok-insert-in-LineFeed-clause-boundary c).After-class_of ∙ c.in-LineFeed.is)

pub returns-in-Letter-clause-adds : goal.returns-in-Letter-clause-adds
returns-in-Letter-clause-adds c =
    let a = c.args in
    let new = record c.args.found.now { tokens = c.word_step.new.tokens } in
    IfOk-weaker c.word_step.result _ _ (λ step h. token_step a.rest.now a.at a.end a.found.now new step.end step.len refl h) c.word_step.ensures.adds

pub returns-in-Mark-clause-adds : goal.returns-in-Mark-clause-adds
returns-in-Mark-clause-adds c =
    let a = c.args in
    let new = record c.args.found.now { tokens = c.mark_step.new.tokens } in
    IfOk-weaker c.mark_step.result _ _ (λ step h. token_step a.rest.now a.at a.end a.found.now new step.end step.len refl h) c.mark_step.ensures.adds

use Rattle.std.proofs.Common.{◌∙◌, ap, subst}
use Rattle.std.specs.List.{prefix_len}
use Rattle.gs_syntax.specs.Quotes.{IsText}
use Rattle.gs_scan.specs.Reading.{IsOnlyFront, NoFront}
use Rattle.gs_scan.proofs.StandingComments.{in_line, line_boundary}
use Rattle.gs_scan.proofs.StandingQuotes.{text_stands, text_boundary, open_text_stands}
use Rattle.gs_scan.proofs.front.text_quoted_at.Goals as goal
use Rattle.gs_scan.proofs.front.text_quoted_at.Goals.{In-Some}

front : (c : In-Some) → IsOnlyFront IsText c.args.rest.now c.in-Some.value c.in-Some.len
front c = subst (λ l. IsOnlyFront IsText l c.in-Some.value c.in-Some.len) c.as_bytes-bytes.ensures.value (rw c.in-Some.is at c.in_ok-value.ensures)

pub returns-in-Some-clause-stands : goal.returns-in-Some-clause-stands
returns-in-Some-clause-stands c = text_stands c.args.rest.now c.in-Some.value c.in-Some.len c.requires (front (goal.at.returns-in-Some-clause-stands c).In-Some)

pub returns-in-Some-clause-boundary : goal.returns-in-Some-clause-boundary
returns-in-Some-clause-boundary c = text_boundary c.args.rest.now c.in-Some.value c.in-Some.len c.utf8.rest (front (goal.at.returns-in-Some-clause-boundary c).In-Some)

pub returns-in-None-clause-stands : goal.returns-in-None-clause-stands
returns-in-None-clause-stands c =
    open_text_stands c.args.rest.now c.len_until.result c.requires
    (subst (NoFront IsText) c.as_bytes-bytes.ensures.value (rw c.in-None.is at c.in_ok-value.ensures))
    (c.len_until.ensures.size ∙ ap (prefix_len in_line) c.as_bytes-bytes.ensures.value)

pub returns-in-None-clause-boundary : goal.returns-in-None-clause-boundary
returns-in-None-clause-boundary c = line_boundary c.args.rest.now c.len_until.result c.utf8.rest (c.len_until.ensures.size ∙ ap (prefix_len in_line) c.as_bytes-bytes.ensures.value)

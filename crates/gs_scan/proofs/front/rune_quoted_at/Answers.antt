use Rattle.std.proofs.Common.{◌∙◌, ap}
use Rattle.std.specs.List.{prefix_len}
use Rattle.gs_scan.proofs.StandingComments.{in_line, line_boundary}
use Rattle.gs_scan.proofs.StandingQuotes.{rune_stands, rune_boundary, open_rune_stands}
use Rattle.gs_scan.proofs.front.rune_quoted_at.Goals as goal

pub returns-in-Some-clause-stands : goal.returns-in-Some-clause-stands
returns-in-Some-clause-stands c = rune_stands c.args.rest.now c.in-Some.code c.in-Some.len c.requires c.in-Some.ensures

pub returns-in-Some-clause-boundary : goal.returns-in-Some-clause-boundary
returns-in-Some-clause-boundary c = rune_boundary c.args.rest.now c.in-Some.code c.in-Some.len c.utf8.rest c.in-Some.ensures

pub returns-in-None-clause-stands : goal.returns-in-None-clause-stands
returns-in-None-clause-stands c =
    open_rune_stands c.args.rest.now c.len_until.result c.requires c.in-None.ensures (c.len_until.ensures.size ∙ ap (prefix_len in_line) c.as_bytes.ensures.value)

pub returns-in-None-clause-boundary : goal.returns-in-None-clause-boundary
returns-in-None-clause-boundary c = line_boundary c.args.rest.now c.len_until.result c.utf8.rest (c.len_until.ensures.size ∙ ap (prefix_len in_line) c.as_bytes.ensures.value)

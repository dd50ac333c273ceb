use Rattle.std.proofs.Common.{◌≡◌, get_or, drop, sym, ◌∙◌, ap, arith}
use Rattle.std.specs.List.{prefix_len}
use Rattle.gs_scan.proofs.StandingComments.{slash_marks, slash_text, slash_some, slash_first, line_comment_stands, line_boundary, in_line}
use Rattle.gs_scan.proofs.front.slash_at.Goals as goal
use Rattle.gs_scan.proofs.front.slash_at.Goals.{After-byte_at-second}

second : (c : After-byte_at-second) → get_or c.args.rest.now 1 0 ≡ c.byte_at-second.result
second c = sym (c.byte_at-second.ensures ∙ ap (λ l. get_or l 1 0) c.as_bytes-bytes.ensures.value)

pub returns-then-second-eq47-clause-stands : goal.returns-then-second-eq47-clause-stands
returns-then-second-eq47-clause-stands c =
    line_comment_stands c.args.rest.now (drop 2 c.args.rest.now) c.len_until.result
    (slash_text c.args.rest.now 47 c.requires (second (goal.at.returns-then-second-eq47-clause-stands c).After-byte_at-second ∙ c.if-second-eq47.true) (omega arith))
    (c.len_until.ensures.size ∙ ap (prefix_len in_line) c.as_bytes-bytes.ensures.value)

pub returns-then-second-eq47-clause-boundary : goal.returns-then-second-eq47-clause-boundary
returns-then-second-eq47-clause-boundary c = line_boundary c.args.rest.now c.len_until.result c.utf8.rest (c.len_until.ensures.size ∙ ap (prefix_len in_line) c.as_bytes-bytes.ensures.value)

pub mark_at-requires : goal.mark_at-requires
mark_at-requires c =
    let text = c.args.rest.now in
    let is_second = second (goal.at.mark_at-requires c).After-byte_at-second in
    let first = slash_first (get_or text 0 0) c.requires in
    slash_marks text c.requires (slash_some text c.requires) (omega (arith, first))
    (λ e. c.if-second-eq47.false (sym is_second ∙ e)) (λ e. c.if-second-eq42.false (sym is_second ∙ e))

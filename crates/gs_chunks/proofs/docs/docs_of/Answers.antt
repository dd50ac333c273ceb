use Rattle.std.proofs.Common.{arith, ap, ◌∙◌, subst, ◌+◌, ◌-◌, ◌≡◌, ◌++◌, length, None}
use Rattle.gs_syntax.specs.Tokens.{mark_size}
use Rattle.gs_chunks.specs.Walks.{docs_on}
use Rattle.gs_chunks.proofs.Texts.{first_line, last_line, more_text}
use Rattle.gs_chunks.proofs.Walking.{IsWalk, walk_begins, walk_step, walk_ends}
use Rattle.gs_chunks.proofs.docs.docs_of.Goals as goal

pub loop-line-init : goal.loop-line-init
loop-line-init c =
    let at : mark_size c.args.text.now ≡ length c.args.text.now - length c.without_mark-rest.result.now = omega (arith, c.without_mark-rest.ensures.len) in (
      c.without_mark-rest.utf8,
      subst (λ n. IsWalk c.args.text.now c.args.comments.now c.args.starts.now n c.without_mark-rest.result.now None c.args.comments.now c.args.starts.now c.new-docs.result.items) at
          (
          walk_begins c.args.text.now c.args.comments.now c.args.starts.now c.without_mark-rest.result.now c.new-docs.result.items c.without_mark-rest.ensures.rest c.without_mark-rest.ensures.len
          c.requires.comments c.requires.slashed c.requires.starts c.new-docs.ensures.items
          ),
    )

pub loop-line-preserved : goal.loop-line-preserved
loop-line-preserved c =
    let line = first_line c.loop-line.rest.now c.in-Some.line c.in-Some.behind c.in-Some.ensures.cases in (
      more_text c.loop-line.rest.now c.in-Some.line c.in-Some.behind c.loop-line.invariant.0 c.in-Some.ensures.cases,
      walk_step c.args.text.now c.args.comments.now c.args.starts.now c.loop-line.at c.loop-line.rest.now c.loop-line.above c.loop-line.left.now c.loop-line.coming.now c.loop-line.docs.items c.in-Some.line.now c.in-Some.behind.now
          c.indent-blanks.result c.range_from.result.now c.said_at.result c.in_ok-above.above c.split_below-in-Some.result.1.now c.split_below.result.0.now c.split_below.result.1.now c.put_docs.new.docs.items
          c.loop-line.invariant.1 line.0 line.1 c.indent-blanks.ensures.blanks c.range_from.ensures.value c.split_below-in-Some.ensures.back c.said_at.ensures c.in_ok-above.ensures c.split_below.ensures.front
          c.split_below.ensures.back c.in_ok-put_docs.ensures,
    )

pub returns : goal.returns
returns c =
    walk_ends c.args.text.now c.args.comments.now c.args.starts.now c.loop-line.at c.loop-line.rest.now c.loop-line.above c.loop-line.left.now c.loop-line.coming.now c.loop-line.docs.items c.put_docs-2.new.docs.items
    c.loop-line.invariant.1 (last_line c.loop-line.rest.now c.in_default.ensures.cases)
    (c.in_ok-put_docs-2.ensures ∙ ap (λ n. c.loop-line.docs.items ++ docs_on (c.loop-line.at + n) c.loop-line.above c.loop-line.coming.now) c.indent.ensures.blanks)

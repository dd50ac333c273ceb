use Rattle.std.proofs.Common.{◌∙◌}
use Rattle.gs_grammar.specs.Grammar.{IsChunkAt}
use Rattle.gs_places.specs.Places.{stands}
use Rattle.gs_ends.proofs.Ends.{chunk_row_of, row_deep, row_lacks}
use Rattle.gs_parse_expr.proofs.Built.{row_built}
use Rattle.gs_parse_expr.proofs.at.chunk_at.Goals as goal

pub returns-in-None : goal.returns-in-None
returns-in-None c =
    let from = c.whole-place.result.tokens.now in
    row_lacks IsChunkAt c.args.tokens.now c.args.at (stands from).chunk (chunk_row_of _ from (c.whole-place.ensures ∙ c.split_at.ensures.back)) c.in-None.ensures

pub returns-then-found-gt-LIMIT : goal.returns-then-found-gt-LIMIT
returns-then-found-gt-LIMIT c =
    let from = c.whole-place.result.tokens.now in
    row_deep IsChunkAt c.args.tokens.now c.args.at (stands from).chunk c.in-Some.found.depth c.in-Some.found.rest.tokens.now (chunk_row_of _ from (c.whole-place.ensures ∙ c.split_at.ensures.back)) c.in-Some.ensures c.if-found-gt-LIMIT.true

pub returns : goal.returns
returns c =
    let from = c.whole-place.result.tokens.now in
    row_built IsChunkAt c.args.tokens.now c.args.at (stands from).chunk c.in-Some.found.depth c.in-Some.found.rest.tokens.now c.chunk_tree.result c.answer.result c.requires.within (chunk_row_of _ from (c.whole-place.ensures ∙ c.split_at.ensures.back)) c.in-Some.ensures c.if-found-gt-LIMIT.false c.chunk_tree.ensures c.answer.ensures

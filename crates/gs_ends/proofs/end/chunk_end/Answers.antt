use Rattle.std.proofs.Common.{◌∙◌}
use Rattle.gs_grammar.specs.Grammar.{IsChunkAt}
use Rattle.gs_places.specs.Places.{stands}
use Rattle.gs_ends.proofs.Ends.{chunk_row_of, row_lacks, row_deep, row_tree, row_short}
use Rattle.gs_ends.proofs.end.chunk_end.Goals as goal

pub returns-in-None : goal.returns-in-None
returns-in-None c =
    let from = c.whole.result.tokens.now in
    row_lacks IsChunkAt c.args.tokens.now c.args.at (stands from).chunk (chunk_row_of _ from (c.whole.ensures ∙ c.split_at.ensures.back)) c.in-None.ensures

pub returns-then-found-gt-LIMIT : goal.returns-then-found-gt-LIMIT
returns-then-found-gt-LIMIT c =
    let from = c.whole.result.tokens.now in
    row_deep IsChunkAt c.args.tokens.now c.args.at (stands from).chunk c.in-Some.found.depth c.in-Some.found.rest.tokens.now (chunk_row_of _ from (c.whole.ensures ∙ c.split_at.ensures.back)) c.in-Some.ensures c.if-found-gt-LIMIT.true

pub overflow_sub-result : goal.overflow_sub-result
overflow_sub-result c =
    let from = c.whole.result.tokens.now in
    row_short IsChunkAt c.args.tokens.now c.args.at (stands from).chunk c.in-Some.found.depth c.in-Some.found.rest.tokens.now c.requires.within (chunk_row_of _ from (c.whole.ensures ∙ c.split_at.ensures.back)) c.in-Some.ensures

pub returns : goal.returns
returns c =
    let from = c.whole.result.tokens.now in
    row_tree IsChunkAt c.args.tokens.now c.args.at (stands from).chunk c.in-Some.found.depth c.in-Some.found.rest.tokens.now c.requires.within (chunk_row_of _ from (c.whole.ensures ∙ c.split_at.ensures.back)) c.in-Some.ensures c.if-found-gt-LIMIT.false

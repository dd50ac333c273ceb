use Rattle.std.proofs.Common.{◌∙◌}
use Rattle.gs_grammar.specs.Grammar.{IsTypeAt}
use Rattle.gs_places.specs.Places.{stands}
use Rattle.gs_ends.proofs.Ends.{type_row_of, row_deep, row_lacks}
use Rattle.gs_parse_expr.proofs.Built.{row_built}
use Rattle.gs_parse_expr.proofs.at.type_at.Goals as goal

pub returns-in-None : goal.returns-in-None
returns-in-None c =
    let from = c.whole-place.result.tokens.now in
    row_lacks IsTypeAt c.args.tokens.now c.args.at (stands from).type (type_row_of _ from (c.whole-place.ensures ∙ c.split_at.ensures.back)) c.in-None.ensures

pub returns-then-found-gt-LIMIT : goal.returns-then-found-gt-LIMIT
returns-then-found-gt-LIMIT c =
    let from = c.whole-place.result.tokens.now in
    row_deep IsTypeAt c.args.tokens.now c.args.at (stands from).type c.in-Some.found.depth c.in-Some.found.rest.tokens.now (type_row_of _ from (c.whole-place.ensures ∙ c.split_at.ensures.back)) c.in-Some.ensures c.if-found-gt-LIMIT.true

pub returns : goal.returns
returns c =
    let from = c.whole-place.result.tokens.now in
    row_built IsTypeAt c.args.tokens.now c.args.at (stands from).type c.in-Some.found.depth c.in-Some.found.rest.tokens.now c.type_tree.result c.answer.result c.requires.within (type_row_of _ from (c.whole-place.ensures ∙ c.split_at.ensures.back)) c.in-Some.ensures c.if-found-gt-LIMIT.false c.type_tree.ensures c.answer.ensures

use Rattle.std.proofs.Common.{◌∙◌, false}
use Rattle.gs_grammar.specs.Grammar.{IsExprAt}
use Rattle.gs_places.specs.Places.{stands}
use Rattle.gs_ends.proofs.Ends.{expr_row_of, row_deep, row_lacks}
use Rattle.gs_parse_expr.proofs.Built.{row_built}
use Rattle.gs_parse_expr.proofs.at.expr_at.Goals as goal

pub returns-in-None : goal.returns-in-None
returns-in-None c =
    let from = c.whole-place.result.tokens.now in
    row_lacks (IsExprAt c.args.header) c.args.tokens.now c.args.at ((stands from).expr 5 c.args.header false) (expr_row_of c.args.header _ from (c.whole-place.ensures ∙ c.split_at.ensures.back)) c.in-None.ensures

pub returns-then-found-gt-LIMIT : goal.returns-then-found-gt-LIMIT
returns-then-found-gt-LIMIT c =
    let from = c.whole-place.result.tokens.now in
    row_deep (IsExprAt c.args.header) c.args.tokens.now c.args.at ((stands from).expr 5 c.args.header false) c.in-Some.found.depth c.in-Some.found.rest.tokens.now (expr_row_of c.args.header _ from (c.whole-place.ensures ∙ c.split_at.ensures.back)) c.in-Some.ensures c.if-found-gt-LIMIT.true

pub returns : goal.returns
returns c =
    let from = c.whole-place.result.tokens.now in
    row_built (IsExprAt c.args.header) c.args.tokens.now c.args.at ((stands from).expr 5 c.args.header false) c.in-Some.found.depth c.in-Some.found.rest.tokens.now c.expr_tree.result c.answer.result c.requires.within (expr_row_of c.args.header _ from (c.whole-place.ensures ∙ c.split_at.ensures.back)) c.in-Some.ensures c.if-found-gt-LIMIT.false c.expr_tree.ensures c.answer.ensures

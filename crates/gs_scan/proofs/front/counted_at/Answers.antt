use Rattle.std.proofs.Common.{sym, ◌∙◌, subst, arith}
use Rattle.gs_syntax.specs.Spelling as lexeme
use Rattle.gs_syntax.specs.Spelling.{StandsAt}
use Rattle.gs_scan.proofs.StandingNumbers.{number_stands, number_boundary, spoiled_stands, spoiled_boundary}
use Rattle.gs_scan.proofs.front.counted_at.Goals as goal

pub split_at-requires : goal.split_at-requires
split_at-requires c = number_boundary c.args.rest.now c.args.len c.args.number c.utf8.rest c.requires.longest

pub returns-in_ok-kind-clause-stands : goal.returns-in_ok-kind-clause-stands
returns-in_ok-kind-clause-stands c =
    subst (λ k. StandsAt c.args.rest.now (lexeme.Token k) c.args.len) (sym c.in_ok-kind.ensures)
    (number_stands c.args.rest.now c.split_at.result.1.now c.args.len c.args.number c.utf8.rest c.requires.begins c.requires.longest
    c.split_at.ensures.back (sym c.word_len-more.ensures.size ∙ c.if-more-eq0.true))

pub returns-in_ok-kind-clause-boundary : goal.returns-in_ok-kind-clause-boundary
returns-in_ok-kind-clause-boundary c = number_boundary c.args.rest.now c.args.len c.args.number c.utf8.rest c.requires.longest

pub returns-else-more-eq0-clause-stands : goal.returns-else-more-eq0-clause-stands
returns-else-more-eq0-clause-stands c =
    spoiled_stands c.args.rest.now c.split_at.result.1.now c.args.len c.word_len-more.result c.args.number c.utf8.rest c.requires.begins c.requires.longest
    c.split_at.ensures.back c.word_len-more.ensures.size (omega arith)

pub returns-else-more-eq0-clause-boundary : goal.returns-else-more-eq0-clause-boundary
returns-else-more-eq0-clause-boundary c =
    spoiled_boundary c.args.rest.now c.split_at.result.1.now c.args.len c.word_len-more.result c.args.number c.utf8.rest c.requires.longest c.split_at.ensures.back c.word_len-more.ensures.boundary

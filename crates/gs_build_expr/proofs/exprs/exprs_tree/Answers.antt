use Rattle.std.proofs.Common.{arith, length}
use Rattle.gs_places.specs.Places.{stands}
use Rattle.gs_build_base.specs.Pieces.{whole}
use Rattle.gs_build_base.proofs.Lengths.{few_exprs, too_many}
use Rattle.gs_build_expr.proofs.exprs.exprs_tree.Goals as goal

pub returns : goal.returns
returns g c =
    too_many
    (length c.args.s.tokens.now)
    ((stands c.args.s.tokens.now).exprs c.args.header)
    c.turns.found
    (whole ((stands c.turns.rest.tokens.now).exprs c.args.header))
    (few_exprs c.args.header c.args.s.tokens.now)
    (omega (arith, c.turns-test.false, c.len.ensures))
    c.turns.invariant

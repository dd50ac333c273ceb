use Rattle.std.proofs.Common.{arith, length}
use Rattle.gs_places.specs.Places.{stands}
use Rattle.gs_build_base.specs.Pieces.{whole}
use Rattle.gs_build_base.proofs.Lengths.{few_operands, too_many}
use Rattle.gs_build_expr.proofs.exprs.operands_tree.Goals as goal

pub returns : goal.returns
returns g c =
    too_many
    (length c.args.s.tokens.now)
    ((stands c.args.s.tokens.now).operands c.args.level c.args.header)
    c.turns.found
    (whole ((stands c.turns.rest.tokens.now).operands c.args.level c.args.header))
    (few_operands c.args.level c.args.header c.args.s.tokens.now)
    (omega (arith, c.turns-test.false, c.len.ensures))
    c.turns.invariant

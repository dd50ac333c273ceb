use Rattle.std.proofs.Common.{arith, length}
use Rattle.gs_places.specs.Places.{stands}
use Rattle.gs_build_base.specs.Pieces.{whole}
use Rattle.gs_build_base.proofs.Lengths.{few_arms, too_many_to}
use Rattle.gs_build_clauses.proofs.arms.arms_tree.Goals as goal

pub returns : goal.returns
returns g c =
    too_many_to
    (length c.args.s.tokens.now)
    ((stands c.args.s.tokens.now).arms)
    c.turns.found
    (whole ((stands c.turns.rest.tokens.now).arms))
    (few_arms c.args.s.tokens.now)
    (omega (arith, c.turns-test.false, c.len.ensures))
    c.turns.invariant

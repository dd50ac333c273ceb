use Rattle.std.proofs.Common.{arith, length}
use Rattle.gs_places.specs.Places.{stands}
use Rattle.gs_build_base.specs.Pieces.{whole}
use Rattle.gs_build_base.proofs.Lengths.{few_args, too_many_to}
use Rattle.gs_build_operands.proofs.suffixes.args_tree.Goals as goal

pub returns : goal.returns
returns g c =
    too_many_to
    (length c.args.s.tokens.now)
    ((stands c.args.s.tokens.now).args)
    c.turns.found
    (whole ((stands c.turns.rest.tokens.now).args))
    (few_args c.args.s.tokens.now)
    (omega (arith, c.turns-test.false, c.len.ensures))
    c.turns.invariant

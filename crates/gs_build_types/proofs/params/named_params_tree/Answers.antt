use Rattle.std.proofs.Common.{arith, length}
use Rattle.gs_places.specs.Places.{stands}
use Rattle.gs_build_base.specs.Pieces.{whole}
use Rattle.gs_build_base.proofs.Lengths.{few_named_params, too_many}
use Rattle.gs_build_types.proofs.params.named_params_tree.Goals as goal

pub returns : goal.returns
returns g c =
    too_many
    (length c.args.s.tokens.now)
    ((stands c.args.s.tokens.now).named_params c.args.dots)
    c.turns.found
    (whole ((stands c.turns.rest.tokens.now).named_params c.args.dots))
    (few_named_params c.args.dots c.args.s.tokens.now)
    (omega (arith, c.turns-test.false, c.len.ensures))
    c.turns.invariant

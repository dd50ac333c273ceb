use Rattle.std.proofs.Common.{arith, length}
use Rattle.gs_places.specs.Places.{stands}
use Rattle.gs_build_base.specs.Pieces.{whole}
use Rattle.gs_build_base.proofs.Lengths.{few_unnamed, too_many}
use Rattle.gs_build_types.proofs.params.unnamed_tree.Goals as goal

pub returns : goal.returns
returns g c =
    too_many
    (length c.args.s.tokens.now)
    ((stands c.args.s.tokens.now).unnamed c.args.dots)
    c.turns.found
    (whole ((stands c.turns.rest.tokens.now).unnamed c.args.dots))
    (few_unnamed c.args.dots c.args.s.tokens.now)
    (omega (arith, c.turns-test.false, c.len.ensures))
    c.turns.invariant

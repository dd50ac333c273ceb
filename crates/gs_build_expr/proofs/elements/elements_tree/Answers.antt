use Rattle.std.proofs.Common.{arith, length}
use Rattle.gs_places.specs.Places.{stands}
use Rattle.gs_build_base.specs.Pieces.{whole}
use Rattle.gs_build_base.proofs.Lengths.{few_elements, too_many}
use Rattle.gs_build_expr.proofs.elements.elements_tree.Goals as goal

pub returns : goal.returns
returns g c =
    too_many
    (length c.args.s.tokens.now)
    ((stands c.args.s.tokens.now).elements)
    c.turns.found
    (whole ((stands c.turns.rest.tokens.now).elements))
    (few_elements c.args.s.tokens.now)
    (omega (arith, c.turns-test.false, c.len.ensures))
    c.turns.invariant

use Rattle.std.proofs.Common.{arith, length}
use Rattle.gs_places.specs.Places.{stands}
use Rattle.gs_build_base.specs.Pieces.{whole}
use Rattle.gs_build_base.proofs.Lengths.{few_var_specs, too_many}
use Rattle.gs_build_decls.proofs.groups.var_specs_tree.Goals as goal

pub returns : goal.returns
returns g c =
    too_many
    (length c.args.s.tokens.now)
    ((stands c.args.s.tokens.now).var_specs)
    c.turns.found
    (whole ((stands c.turns.rest.tokens.now).var_specs))
    (few_var_specs c.args.s.tokens.now)
    (omega (arith, c.turns-test.false, c.len.ensures))
    c.turns.invariant

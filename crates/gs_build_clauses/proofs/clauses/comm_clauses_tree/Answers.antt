use Rattle.std.proofs.Common.{arith, length}
use Rattle.gs_places.specs.Places.{stands}
use Rattle.gs_build_base.specs.Pieces.{whole}
use Rattle.gs_build_base.proofs.Lengths.{few_comm_clauses, too_many}
use Rattle.gs_build_clauses.proofs.clauses.comm_clauses_tree.Goals as goal

pub returns : goal.returns
returns g c =
    too_many
    (length c.args.s.tokens.now)
    ((stands c.args.s.tokens.now).comm_clauses)
    c.turns.found
    (whole ((stands c.turns.rest.tokens.now).comm_clauses))
    (few_comm_clauses c.args.s.tokens.now)
    (omega (arith, c.turns-test.false, c.len.ensures))
    c.turns.invariant

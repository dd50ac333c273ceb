use Rattle.std.proofs.Common.{arith}
use Rattle.goserve.proofs.Taking.{passed_more, taken_more}
use Rattle.goserve.proofs.reading.read_pieces.Goals as goal

pub returns-then-count-len-clause-read : goal.returns-then-count-len-clause-read
returns-then-count-len-clause-read g c =
    passed_more _ _ _ _ _ _ _ c.pieces.invariant.taken c.in-Got.ensures.pulled
    (omega (arith, c.in-Got.ensures.pulled.bound, c.pull_front.auto.buffer, c.pieces.auto.piece))
    (omega (arith, c.in-Got.ensures.pulled.bound, c.pieces.invariant.size))

pub returns-then-is_err-clause-read : goal.returns-then-is_err-clause-read
returns-then-is_err-clause-read g c =
    taken_more _ _ _ _ _ _ _ c.pieces.invariant.taken c.in-Got.ensures.pulled
    (omega (arith, c.in-Got.ensures.pulled.bound, c.pull_front.auto.buffer, c.pieces.auto.piece))
    (omega (arith, c.in-Got.ensures.pulled.bound, c.pieces.invariant.size))

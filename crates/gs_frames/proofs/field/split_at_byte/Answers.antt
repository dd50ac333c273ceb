use Rattle.std.proofs.Common.{sym, ◌∙◌}
use Rattle.gs_frames.proofs.Bytes.{found, not_found}
use Rattle.gs_frames.proofs.field.split_at_byte.Goals as goal

pub returns-in_err-at : goal.returns-in_err-at
returns-in_err-at c = rw c.from_residual.ensures (not_found c.args.mark c.args.bytes.now (sym c.index_of.ensures ∙ c.in_err-at.was))

pub returns : goal.returns
returns c =
    rw (c.split_at-2.ensures.back, c.split_at.ensures.front, c.split_at.ensures.back)
    (found c.args.mark c.args.bytes.now c.in_ok-at.at (sym c.index_of.ensures ∙ c.in_ok-at.was))

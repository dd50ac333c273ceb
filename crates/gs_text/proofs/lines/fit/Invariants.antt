use Rattle.std.proofs.Common.{◌≡◌, ◌+◌, length}
use Rattle.std.specs.Str.{chars}
use Rattle.gs_text.proofs.Fits.{fit_len}
use Rattle.gs_text.proofs.Walks.{line_rest}
use Rattle.gs_text.proofs.lines.fit.Given as goal

-- the bytes so far, and those that still fit, are all that fit
abbrev pub invariant-loop-c : goal.invariant-loop-c
invariant-loop-c l =
    l.bytes + fit_len l.unit l.left (line_rest (chars l.text) (length l.yielded)) ≡ fit_len l.unit l.fn.units (line_rest (chars l.text) 0)

use Rattle.std.proofs.Common.{◌≡◌, ◌+◌, ◌≤◌, length, drop, map}
use Rattle.gs_gomod.specs.Forms.{arrow_at}
use Rattle.gs_gomod.specs.Shown.{seen}
use Rattle.gs_gomod.proofs.form.arrow_at.Given as goal

abbrev pub invariant-loop-at : goal.invariant-loop-at
invariant-loop-at l = (l.at + arrow_at (map seen (drop l.at l.words)) ≡ arrow_at (map seen l.words)) × (l.at ≤ length l.words)

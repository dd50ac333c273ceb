use Rattle.std.proofs.Common.{◌≡◌, ℕ, ◌<◌, get_or, true}
use Rattle.gs_chunks.specs.Docs.{is_blank}
use Rattle.gs_chunks.proofs.docs.indent.Given as goal

abbrev pub invariant-loop-i : goal.invariant-loop-i
invariant-loop-i l = (k : ℕ) → k < l.i → is_blank (get_or l.line k 0) ≡ true

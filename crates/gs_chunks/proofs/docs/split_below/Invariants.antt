use Rattle.std.proofs.Common.{◌≡◌, ℕ, ◌<◌, get_or, ltb, true}
use Rattle.gs_chunks.proofs.docs.split_below.Given as goal

abbrev pub invariant-loop-i : goal.invariant-loop-i
invariant-loop-i l = (k : ℕ) → k < l.i → ltb (get_or l.numbers k 0) l.end ≡ true

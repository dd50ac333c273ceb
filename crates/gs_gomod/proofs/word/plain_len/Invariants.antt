use Rattle.std.proofs.Common.{◌≡◌, ◌+◌, ◌≤◌, length, drop}
use Rattle.gs_gomod.specs.Reading.{plain_size}
use Rattle.gs_gomod.proofs.word.plain_len.Given as goal

abbrev pub invariant-loop-at : goal.invariant-loop-at
invariant-loop-at l = (l.at + plain_size (drop l.at l.bytes) ≡ plain_size l.bytes) × (l.at ≤ length l.bytes)

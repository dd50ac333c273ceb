use Rattle.std.proofs.Common.{length, ◌+◌, ◌-◌, ◌≤◌}
use Rattle.std.specs.Io.KnownBytes.{Consumes}
use Rattle.goserve.specs.Moves.{most_input}
use Rattle.goserve.proofs.reading.read_pieces.Given as goal

abbrev pub invariant-pieces : goal.invariant-pieces
invariant-pieces g l = record {
  size : length l.input.items ≤ most_input;
  taken : Consumes (g.S.Source.left l.initial.source) (g.S.Source.left l.source) l.input.items;
  later : g.S.Source.faults l.initial.source ≤ g.S.Source.faults l.source;
}

abbrev pub decreases-pieces : goal.decreases-pieces
decreases-pieces g l = most_input + 1 - length l.input.items

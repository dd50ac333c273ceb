use Rattle.std.proofs.Common.{◌≡◌, ◌≤◌, drop, length, map}
use Rattle.goserve.specs.FirstForm.{are_in_order}
use Rattle.goserve.specs.Seen.{seen, HasNames}
use Rattle.goserve.proofs.form.collect.Given as goal

abbrev pub invariant-loop-at : goal.invariant-loop-at
invariant-loop-at l = record {
  within : l.at ≤ length l.declarations;
  names : HasNames l.names (map seen (drop l.at l.declarations));
  order : l.in_order ≡ are_in_order (map seen (drop l.at l.declarations));
}

abbrev pub decreases-loop-at : goal.decreases-loop-at
decreases-loop-at l = l.at

use Rattle.std.proofs.Common.{◌≡◌, ◌+◌, map, drop}
use Rattle.gs_gomod.specs.Steps.{Leads}
use Rattle.gs_gomod.proofs.read.read_lines.Given as goal

abbrev pub invariant-loop-line : goal.invariant-loop-line
invariant-loop-line l = record {
  leads : Leads l.found (l.line-index + 1) (map (λ x. x.now) (drop l.line-index l.lines)) (map (λ x. x.now) l.lines);
  count : l.number ≡ l.line-index;
}

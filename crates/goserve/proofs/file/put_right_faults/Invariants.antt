use Rattle.std.proofs.Common.{◌≡◌, ◌++◌, drop, map}
use Rattle.gs_rules.specs.Faults.{right_faults}
use Rattle.goserve.specs.Seen.{found, seen}
use Rattle.goserve.proofs.file.put_right_faults.Given as goal

abbrev pub invariant-loop-declaration : goal.invariant-loop-declaration
invariant-loop-declaration l = l.faults.items ++ right_faults l.file (found l.names) (map seen (drop l.declaration-index l.declarations))
    ≡ l.initial.faults.items ++ right_faults l.file (found l.names) (map seen l.declarations)

use Rattle.std.proofs.Common.{◌≡◌, ◌++◌, drop}
use Rattle.gs_rules.specs.Lines.{lines_of, place_of}
use Rattle.goserve.proofs.line.put_faults.Given as goal

abbrev pub invariant-loop-fault : goal.invariant-loop-fault
invariant-loop-fault l = record {
  lines : l.out.items ++ lines_of l.input (drop l.fault-index l.faults) ≡ l.initial.out.items ++ lines_of l.input l.faults;
  place : l.place ≡ place_of l.input l.offset;
}

use Rattle.std.proofs.Common.{◌≡◌, ◌++◌, drop}
use Rattle.gs_rules.specs.Faults.{form_faults}
use Rattle.goserve.proofs.file.form_faults.Given as goal

abbrev pub invariant-loop-fault : goal.invariant-loop-fault
invariant-loop-fault l = l.told.items ++ form_faults l.file (drop l.fault-index l.faults) ≡ form_faults l.file l.faults

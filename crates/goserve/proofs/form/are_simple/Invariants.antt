use Rattle.std.proofs.Common.{◌≡◌, drop, map}
use Rattle.std.specs.List.{list_all}
use Rattle.goserve.specs.Seen.{found, seen}
use Rattle.goserve.specs.Simple.{is_simple}
use Rattle.goserve.proofs.form.are_simple.Given as goal

abbrev pub invariant-loop-declaration : goal.invariant-loop-declaration
invariant-loop-declaration l = list_all (is_simple (found l.names)) (map seen (drop l.declaration-index l.declarations)) ≡ list_all (is_simple (found l.names)) (map seen l.declarations)

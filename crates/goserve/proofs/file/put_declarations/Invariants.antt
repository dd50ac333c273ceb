use Rattle.std.proofs.Common.{◌≡◌, ◌++◌, drop, map}
use Rattle.gs_rules.specs.Files.{parts_of, declarations_in}
use Rattle.goserve.specs.Seen.{seen}
use Rattle.goserve.proofs.file.put_declarations.Given as goal

abbrev pub invariant-loop-place : goal.invariant-loop-place
invariant-loop-place l = map seen l.declarations.items ++ declarations_in (parts_of l.tokens (drop l.place-index l.places))
    ≡ map seen l.initial.declarations.items ++ declarations_in (parts_of l.tokens l.places)

-- What the answer of an importer says.
use Rattle.std.specs.Prelude.{◌≡◌, Option, Some, None}
use Rattle.gs_ask.specs.Reply.{Reply, known, absent, broken}
use Rattle.gs_ask.specs.declared.importer.Found.{Found}
use Rattle.gs_ask.specs.declared.importer.Found.TheVariants as found

abbrev pub Answers : Option Reply → Found → Type 0
Answers o (found.Sig s) = o ≡ Some (known s)
Answers o found.Absent = o ≡ Some absent
Answers o found.Broken = o ≡ Some broken
Answers o found.Unready = o ≡ None
Answers o found.NoMemory = Unit {0}

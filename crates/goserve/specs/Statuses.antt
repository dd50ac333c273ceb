-- The numbers of a run's endings.
use Rattle.std.specs.Prelude.{ℕ, ◌==◌, if◌then◌else◌, List, [], codes}
use Rattle.goserve.specs.declared.status.Status.{Status}
use Rattle.goserve.specs.declared.status.Status.TheVariants.{Clean, Faulty, Usage, ReadFailed, WriteFailed, NoMemory, TooLong, NotBuilt}

-- the numbers of the endings
abbrev pub number_of : Status → ℕ
number_of Clean = 0
number_of Faulty = 1
number_of Usage = 2
number_of ReadFailed = 5
number_of WriteFailed = 6
number_of NoMemory = 7
number_of TooLong = 8
number_of NotBuilt = 11

-- the counts of an ending
abbrev pub checked_of : Status → ℕ
checked_of Clean = 1
checked_of Faulty = 1
checked_of _ = 0

-- what is said of a status on standard error
abbrev pub text_of : ℕ → List ℕ
text_of status = if status == 2 then codes "usage: goserve check -" else
    if status == 5 then codes "read failed" else
    if status == 6 then codes "write failed" else
    if status == 7 then codes "out of memory" else
    if status == 8 then codes "input too long" else
    if status == 11 then codes "form not built yet" else []

-- What a run does.
use Rattle.std.specs.Prelude.{◌≡◌, ◌≢◌, ◌⊎◌, ℕ, ◌+◌, ◌≤◌, List, [], length, Option, if◌then◌else◌, nat_lt}
use Rattle.std.specs.Io.KnownBytes.{Appends, Consumes, IsAtEnd, Keeps}
use Rattle.gs_rules.specs.declared.fault.Fault.{Fault}
use Rattle.gs_rules.specs.Lines.{output_of}
use Rattle.goserve.specs.declared.status.Status.{Status}
use Rattle.goserve.specs.declared.status.Status.TheVariants.{Clean, Faulty, Usage, ReadFailed, WriteFailed, NoMemory, TooLong, NotBuilt}
use Rattle.goserve.specs.declared.run.Outcome.{Outcome}
use Rattle.goserve.specs.Answers.{AreFaults, IsOther}
use Rattle.goserve.specs.Moves.{IsCut, most_input}
use Rattle.goserve.specs.Statuses.{number_of}

-- each ending by its cause and by what was written, where this input was taken
abbrev pub Concluded : List ℕ → Option (List ℕ) → Option (List ℕ) → Status → Type 0
Concluded input written grown Clean = AreFaults input [] × Appends written grown (output_of input [])
Concluded input written grown Faulty = (faults : List Fault) × AreFaults input faults × (faults ≢ []) × Appends written grown (output_of input faults)
Concluded input written grown WriteFailed = (faults : List Fault) × AreFaults input faults × IsCut written grown (output_of input faults)
Concluded input written grown NotBuilt = IsOther input × Keeps written grown
Concluded input written grown ReadFailed = Keeps written grown
Concluded input written grown TooLong = Keeps written grown
Concluded input written grown NoMemory = Keeps written grown
Concluded input written grown Usage = ⊥

-- how many bytes were taken: one more than an input may have exactly where it is too long
abbrev pub IsSized : ℕ → Status → Type 0
IsSized size TooLong = size ≡ most_input + 1
IsSized size _ = size ≤ most_input

-- these endings come behind the end of the input
abbrev pub HasRest : Option (List ℕ) → Status → Type 0
HasRest later Clean = IsAtEnd later
HasRest later Faulty = IsAtEnd later
HasRest later WriteFailed = IsAtEnd later
HasRest later NotBuilt = IsAtEnd later
HasRest later _ = Unit

-- what a run over the words of the command did: the input that it took, and how it ended
pub record HasChecked (left later written grown : Option (List ℕ)) (status : Status) : Type 0 where
  pub input : List ℕ
  pub taken : Consumes left later input
  pub size : IsSized (length input) status
  pub rest : HasRest later status
  pub concluded : Concluded input written grown status

-- the ending with the number that a run gave
pub record HasEnded (left later written grown : Option (List ℕ)) (outcome : Outcome) : Type 0 where
  pub status : Status
  pub number : outcome.status ≡ number_of status
  pub did : HasChecked left later written grown status

-- the statuses that come only where the source has nothing left
abbrev pub IsFinished : ℕ → Type 0
IsFinished number = (number ≡ 0) ⊎ ((number ≡ 1) ⊎ ((number ≡ 6) ⊎ (number ≡ 11)))

-- one package was checked where the status is 0 or 1, and none is ever loaded
pub record HasCounts (outcome : Outcome) : Type 0 where
  pub checked : outcome.checked ≡ (if nat_lt outcome.status 2 then 1 else 0)
  pub loaded : outcome.loaded ≡ 0

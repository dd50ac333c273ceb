-- What a pull does to a source.
use Rattle.std.specs.Prelude.{◌≡◌, ℕ, ◌<◌, ◌≤◌, List, length, take}
use Rattle.std.specs.declared.option.Option.{Option}
use Rattle.std.specs.Io.KnownBytes.{Consumes, IsAtEnd, Keeps}
use Rattle.gs_outside.specs.Causes.{Rose}
use Rattle.gs_outside.specs.declared.Pulled.{Pulled}
use Rattle.gs_outside.specs.declared.Pulled.TheVariants.{Got, Failed}

-- the first n bytes of the buffer are the next ones; n is 0 in a buffer that is not empty exactly at the end
pub record Gives (old new : Option (List ℕ)) (buffer : List ℕ) (n : ℕ) : Type 0 where
  pub bound : n ≤ length buffer
  pub bytes : Consumes old new (take n buffer)
  pub ends : n ≡ 0 → 0 < length buffer → IsAtEnd new

-- what a pull did to the bytes that are left, where they are told
abbrev pub Pulls : Option (List ℕ) → Option (List ℕ) → List ℕ → Pulled → Type 0
Pulls old new buffer (Got n) = Gives old new buffer n
Pulls old new buffer Failed = Keeps old new

-- a pull fails only where the count rose
abbrev pub HasPullCause : ℕ → ℕ → Pulled → Type 0
HasPullCause before now (Got n) = before ≤ now
HasPullCause before now Failed = (before ≤ now) × Rose before now

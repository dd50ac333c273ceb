-- Whole runs of a Framer.
use Rattle.std.specs.Prelude.{◌≡◌, ℕ, List, [], ◌∷◌, ◌++◌}
use Rattle.gs_frames.specs.Unread.{Unread}
use Rattle.gs_frames.specs.Calls.{Answers}
use Rattle.gs_frames.specs.declared.framer.Next.{Next}
use Rattle.gs_frames.specs.declared.framer.Next.TheVariants.{Frame, More, Header, TooLong, NoMemory}

-- a call that was made: this piece was fed, or `next` answered this
pub data Call : Type 0 where
  Fed : List ℕ → Call
  Told : Next → Call

-- what a call does to what is unread
abbrev pub Step : Unread → Call → Unread → Type 0
Step old (Fed piece) new = new ≡ record old { rest = old.rest ++ piece }
Step old (Told answer) new = Answers old answer new

-- the calls, one after another
abbrev pub Run : Unread → List Call → Unread → Type 0
Run old [] new = new ≡ old
Run old (call ∷ calls) new = (mid : Unread) × Step old call mid × Run mid calls new

-- all bytes that were fed
abbrev pub fed : List Call → List ℕ
fed [] = []
fed (Fed piece ∷ calls) = piece ++ fed calls
fed (Told answer ∷ calls) = fed calls

-- the bodies of all frames that were given
abbrev pub given : List Call → List (List ℕ)
given [] = []
given (Fed piece ∷ calls) = given calls
given (Told (Frame body) ∷ calls) = body ∷ given calls
given (Told More ∷ calls) = given calls
given (Told (Header at) ∷ calls) = given calls
given (Told (TooLong n) ∷ calls) = given calls
given (Told NoMemory ∷ calls) = given calls

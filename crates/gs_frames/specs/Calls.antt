-- What the calls of a Framer do.
use Rattle.std.specs.Prelude.{◌≡◌, ℕ, ◌+◌, ◌<◌, ◌≤◌, List, length, drop}
use Rattle.gs_frames.specs.Header.{HasHeaderFault}
use Rattle.gs_frames.specs.Frames.{BeginsWithFrame, IsTooLong, IsIncomplete}
use Rattle.gs_frames.specs.Unread.{Unread}
use Rattle.gs_frames.specs.declared.framer.Next.{Next}
use Rattle.gs_frames.specs.declared.framer.Next.TheVariants.{Frame, More, Header, TooLong, NoMemory}

-- a frame with this body was at the front of what was unread, and is read: what is unread is shorter, and the
-- place counts on
pub record TakesFrame (old : Unread) (body : List ℕ) (new : Unread) : Type 0 where
  pub front : BeginsWithFrame old.rest body new.rest
  pub place : new.at + length new.rest ≡ old.at + length old.rest
  pub shorter : length new.rest < length old.rest

-- What `next` answers, by what stands at the front of what is unread; only a frame is taken from there.
abbrev pub Answers : Unread → Next → Unread → Type 0
Answers old (Frame body) new = TakesFrame old body new
Answers old More new = IsIncomplete old.rest × (new ≡ old)
Answers old (Header at) new = HasHeaderFault old.rest × (at ≡ old.at) × (new ≡ old)
Answers old (TooLong n) new = IsTooLong old.rest n × (new ≡ old)
Answers old NoMemory new = ((body more : List ℕ) × BeginsWithFrame old.rest body more) × (new ≡ old)

-- the answer to what is unread, of which it takes so many bytes
abbrev pub IsAnswerAt : ℕ → List ℕ → Next → ℕ → Type 0
IsAnswerAt at rest next taken = (taken ≤ length rest) × Answers (record { at = at; rest = rest }) next (record { at = at + taken; rest = drop taken rest })

-- What stands at the front says what is answered.
use Rattle.std.proofs.Common.{◌≡◌, ℕ, List, refl, ap, inl, inr, ◌⊎◌}
use Rattle.gs_frames.specs.Header.{HasHeaderFault}
use Rattle.gs_frames.specs.Frames.{BeginsWithFrame, IsTooLong, IsIncomplete}
use Rattle.gs_frames.specs.Unread.{Unread}
use Rattle.gs_frames.specs.Calls.{Answers}
use Rattle.gs_frames.specs.declared.framer.Next.{Next}
use Rattle.gs_frames.specs.declared.framer.Next.TheVariants.{Frame, More, Header, TooLong, NoMemory}
use Rattle.gs_frames.proofs.Reading.{one_frame, frame_no_fault, frame_not_long, long_no_fault, one_long}

pub at_incomplete : (old new : Unread) (answer : Next) → IsIncomplete old.rest → Answers old answer new → answer ≡ More
at_incomplete old new (Frame body) i a = absurd (i.no_frame body new.rest a.front)
at_incomplete old new More i a = refl
at_incomplete old new (Header at) i a = absurd (i.no_fault a.0)
at_incomplete old new (TooLong n) i a = absurd (i.not_too_long n a.0)
at_incomplete old new NoMemory i a = absurd (i.no_frame a.0.0 a.0.1 a.0.2)

pub at_fault : (old new : Unread) (answer : Next) → HasHeaderFault old.rest → Answers old answer new → answer ≡ Header old.at
at_fault old new (Frame body) h a = absurd (frame_no_fault old.rest body new.rest a.front h)
at_fault old new More h a = absurd (a.0.no_fault h)
at_fault old new (Header at) h a = ap Header a.1
at_fault old new (TooLong n) h a = absurd (long_no_fault old.rest n a.0 h)
at_fault old new NoMemory h a = absurd (frame_no_fault old.rest a.0.0 a.0.1 a.0.2 h)

pub at_too_long : (old new : Unread) (answer : Next) (n : ℕ) → IsTooLong old.rest n → Answers old answer new → answer ≡ TooLong n
at_too_long old new (Frame body) n t a = absurd (frame_not_long old.rest body new.rest n a.front t)
at_too_long old new More n t a = absurd (a.0.not_too_long n t)
at_too_long old new (Header at) n t a = absurd (long_no_fault old.rest n t a.0)
at_too_long old new (TooLong m) n t a = ap TooLong (one_long old.rest m n a.0 t)
at_too_long old new NoMemory n t a = absurd (frame_not_long old.rest a.0.0 a.0.1 n a.0.2 t)

pub at_frame : (old new : Unread) (answer : Next) (body more : List ℕ) → BeginsWithFrame old.rest body more → Answers old answer new
    → (answer ≡ Frame body) ⊎ (answer ≡ NoMemory)
at_frame old new (Frame other) body more f a = inl (ap Frame (one_frame old.rest other new.rest body more a.front f).0)
at_frame old new More body more f a = absurd (a.0.no_frame body more f)
at_frame old new (Header at) body more f a = absurd (frame_no_fault old.rest body more f a.0)
at_frame old new (TooLong n) body more f a = absurd (frame_not_long old.rest body more n f a.0)
at_frame old new NoMemory body more f a = inr refl

-- Whole runs.
use Rattle.std.proofs.Common.{◌≡◌, ℕ, ◌+◌, List, [], ◌∷◌, ◌++◌, length, drop, refl, sym, ◌∙◌, ap, arith, append_assoc, length-append}
use Rattle.std.proofs.lemmas.List.{append-nil, drop_at}
use Rattle.gs_frames.specs.Frames.{BeginsWithFrame, AreFrames, IsReading, HasNoFrame}
use Rattle.gs_frames.specs.Header.{HasHeaderFault}
use Rattle.gs_frames.specs.Unread.{Unread, at_start}
use Rattle.gs_frames.specs.Calls.{Answers, TakesFrame}
use Rattle.gs_frames.specs.Runs.{Call, Fed, Told, Run, fed, given}
use Rattle.gs_frames.specs.declared.framer.Next.TheVariants.{Frame, More, Header, TooLong, NoMemory}
use Rattle.gs_frames.proofs.Staying.{frames_more}
use Rattle.gs_frames.proofs.Reading.{one_reading, frame_no_fault}

frames_push : (bytes : List ℕ) (fs : List (List ℕ)) (rest body more : List ℕ) → AreFrames bytes fs rest → BeginsWithFrame rest body more → AreFrames bytes (fs ++ body ∷ []) more
frames_push bytes [] rest body more e f = (more, rw e f, refl)
frames_push bytes (g ∷ fs) rest body more p f = (p.0, p.1, frames_push p.0 fs rest body more p.2 f)

-- what holds after some calls: the frames, and the place
record Holds (bytes : List ℕ) (bodies : List (List ℕ)) (now : Unread) : Type 0 where
  frames : AreFrames bytes bodies now.rest
  place : now.at + length now.rest ≡ length bytes

same_now : (bytes : List ℕ) (bodies : List (List ℕ)) (old new : Unread) → new ≡ old → Holds bytes bodies old → Holds bytes bodies new
same_now bytes bodies old new e h = rw e h

after_piece : (bytes : List ℕ) (bodies : List (List ℕ)) (old new : Unread) (piece : List ℕ) → new ≡ record old { rest = old.rest ++ piece } → Holds bytes bodies old → Holds (bytes ++ piece) bodies new
after_piece bytes bodies old new piece e h = rw e (record {
  frames = frames_more bytes piece bodies old.rest h.frames;
  place = omega (arith, h.place, length-append old.rest piece, length-append bytes piece);
})

after_frame : (bytes : List ℕ) (bodies : List (List ℕ)) (old new : Unread) (body : List ℕ) → TakesFrame old body new → Holds bytes bodies old → Holds bytes (bodies ++ body ∷ []) new
after_frame bytes bodies old new body t h = record {
  frames = frames_push bytes bodies old.rest body new.rest h.frames t.front;
  place = t.place ∙ h.place;
}

kept : (bytes : List ℕ) (bodies : List (List ℕ)) (old : Unread) (calls : List Call) (new : Unread) → Holds bytes bodies old → Run old calls new → Holds (bytes ++ fed calls) (bodies ++ given calls) new
kept bytes bodies old [] new h e = rw (append-nil bytes, append-nil bodies) (same_now bytes bodies old new e h)
kept bytes bodies old (Fed piece ∷ calls) new h r =
    rw (← append_assoc bytes piece (fed calls)) (kept (bytes ++ piece) bodies r.0 calls new (after_piece bytes bodies old r.0 piece r.1 h) r.2)
kept bytes bodies old (Told (Frame body) ∷ calls) new h r =
    rw (← append_assoc bodies (body ∷ []) (given calls)) (kept bytes (bodies ++ body ∷ []) r.0 calls new (after_frame bytes bodies old r.0 body r.1 h) r.2)
kept bytes bodies old (Told More ∷ calls) new h r = kept bytes bodies r.0 calls new (same_now bytes bodies old r.0 r.1.1 h) r.2
kept bytes bodies old (Told (Header at) ∷ calls) new h r = kept bytes bodies r.0 calls new (same_now bytes bodies old r.0 r.1.2 h) r.2
kept bytes bodies old (Told (TooLong n) ∷ calls) new h r = kept bytes bodies r.0 calls new (same_now bytes bodies old r.0 r.1.1 h) r.2
kept bytes bodies old (Told NoMemory ∷ calls) new h r = kept bytes bodies r.0 calls new (same_now bytes bodies old r.0 r.1.1 h) r.2

from_start : (calls : List Call) (end : Unread) → Run at_start calls end → Holds (fed calls) (given calls) end
from_start calls end r = kept [] [] at_start calls end (record { frames = refl; place = omega arith }) r

pub run_frames : (calls : List Call) (end : Unread) → Run at_start calls end → AreFrames (fed calls) (given calls) end.rest
run_frames calls end r = (from_start calls end r).frames

pub run_place : (calls : List Call) (end : Unread) → Run at_start calls end → end.at + length end.rest ≡ length (fed calls)
run_place calls end r = (from_start calls end r).place

frames_front : (bytes : List ℕ) (fs : List (List ℕ)) (rest : List ℕ) → AreFrames bytes fs rest → (front : List ℕ) × (bytes ≡ front ++ rest)
frames_front bytes [] rest e = ([], e)
frames_front bytes (f ∷ fs) rest p =
    let later = frames_front p.0 fs rest p.2 in
    (p.1.frame ++ later.0, p.1.front ∙ (ap (λ (t : List ℕ). p.1.frame ++ t) later.1 ∙ sym (append_assoc p.1.frame later.0 rest)))

pub run_rest : (calls : List Call) (end : Unread) → Run at_start calls end → end.rest ≡ drop end.at (fed calls)
run_rest calls end r =
    let parts = frames_front (fed calls) (given calls) end.rest (run_frames calls end r) in
    let long : length parts.0 ≡ end.at = omega (arith, run_place calls end r, ap length parts.1, length-append parts.0 end.rest) in
    sym (ap (drop end.at) parts.1 ∙ drop_at parts.0 end.rest end.at long)

pub run_reading : (calls : List Call) (end : Unread) → Run at_start calls end → HasNoFrame end.rest → IsReading (fed calls) (given calls) end.rest
run_reading calls end r none = record { frames = run_frames calls end r; last = none }

unread_by : ℕ → List ℕ → Unread
unread_by at rest = record { at = at; rest = rest }

pub one_end : (a b : List Call) (x y : Unread) → Run at_start a x → Run at_start b y → fed a ≡ fed b → HasNoFrame x.rest → HasNoFrame y.rest → (given a ≡ given b) × (x.rest ≡ y.rest) × (x.at ≡ y.at)
one_end a b x y r s e p q =
    let o = one_reading (fed a) (given a) (given b) x.rest y.rest (run_reading a x r p) (rw e (run_reading b y s q)) in
    (o.0, o.1, omega (arith, run_place a x r, run_place b y s, ap length e, ap length o.1))

pub run_header : (calls : List Call) (now end : Unread) (at : ℕ) → Run at_start calls now → Answers now (Header at) end
    → IsReading (fed calls) (given calls) (drop at (fed calls)) × HasHeaderFault (drop at (fed calls))
run_header calls now end at r a =
    let e : now.rest ≡ drop at (fed calls) = run_rest calls now r ∙ ap (λ (n : ℕ). drop n (fed calls)) (sym a.1) in
    (rw (← e) (run_reading calls now r (λ body more f. frame_no_fault now.rest body more f a.0)), rw (← e) a.0)

-- A stream is read in one way.
use Rattle.std.proofs.Common.{◌≡◌, ℕ, List, [], ◌∷◌, ◌++◌, length, take, refl, sym, ◌∙◌, ap, arith}
use Rattle.std.proofs.lemmas.List.{append_cancel_left, take_at}
use Rattle.gs_frames.specs.Header.{HasHeaderFault}
use Rattle.gs_frames.specs.Frames.{BeginsWithFrame, IsTooLong, AreFrames, IsReading, HasNoFrame}
use Rattle.gs_frames.proofs.Fronts.{one_number, frame_begins, begins_no_fault}

-- two lists that begin alike, with fronts of one length, have one front
pub same_fronts : (a b x y : List ℕ) → length a ≡ length b → a ++ x ≡ b ++ y → (a ≡ b) × (x ≡ y)
same_fronts a b x y l e =
    let front : a ≡ b = sym (take_at a x (length a) refl) ∙ (ap (take (length a)) e ∙ take_at b y (length a) (sym l)) in
    (front, append_cancel_left b x y (ap (λ (t : List ℕ). t ++ x) (sym front) ∙ e))

pub one_frame : (bytes body more other rest : List ℕ) → BeginsWithFrame bytes body more → BeginsWithFrame bytes other rest → (body ≡ other) × (more ≡ rest)
one_frame bytes body more other rest f g =
    let o = one_number bytes (length body) (length other) (frame_begins bytes body more f) (frame_begins bytes other rest g) in
    same_fronts body other more rest o.number o.more

pub frame_no_fault : (bytes body more : List ℕ) → BeginsWithFrame bytes body more → HasHeaderFault bytes → ⊥
frame_no_fault bytes body more f h = begins_no_fault bytes (length body) (frame_begins bytes body more f) h

pub frame_not_long : (bytes body more : List ℕ) (n : ℕ) → BeginsWithFrame bytes body more → IsTooLong bytes n → ⊥
frame_not_long bytes body more n f t =
    let o = one_number bytes (length body) n (frame_begins bytes body more f) t.begins in
    absurd (omega (arith, o.number, t.above, f.is_frame.short))

pub long_no_fault : (bytes : List ℕ) (n : ℕ) → IsTooLong bytes n → HasHeaderFault bytes → ⊥
long_no_fault bytes n t h = begins_no_fault bytes n t.begins h

pub one_long : (bytes : List ℕ) (m n : ℕ) → IsTooLong bytes m → IsTooLong bytes n → m ≡ n
one_long bytes m n s t = (one_number bytes m n s.begins t.begins).number

no_first : (bytes rest body more : List ℕ) → bytes ≡ rest → HasNoFrame rest → BeginsWithFrame bytes body more → ⊥
no_first bytes rest body more e none f = none body more (rw (← e) f)

one_list : (bytes : List ℕ) (fs gs : List (List ℕ)) (r s : List ℕ) → AreFrames bytes fs r → AreFrames bytes gs s → HasNoFrame r → HasNoFrame s → (fs ≡ gs) × (r ≡ s)
one_list bytes [] [] r s p q u v = (refl, sym p ∙ q)
one_list bytes [] (g ∷ gs) r s p q u v = absurd (no_first bytes r g q.0 p u q.1)
one_list bytes (f ∷ fs) [] r s p q u v = absurd (no_first bytes s f p.0 q v p.1)
one_list bytes (f ∷ fs) (g ∷ gs) r s p q u v =
    let o = one_frame bytes f p.0 g q.0 p.1 q.1 in
    let body : f ≡ g = o.0 in
    let tail = one_list p.0 fs gs r s p.2 (rw o.1 q.2) u v in
    let bodies : fs ≡ gs = tail.0 in
    ((cc), tail.1)

pub one_reading : (bytes : List ℕ) (fs gs : List (List ℕ)) (r s : List ℕ) → IsReading bytes fs r → IsReading bytes gs s → (fs ≡ gs) × (r ≡ s)
one_reading bytes fs gs r s p q = one_list bytes fs gs r s p.frames q.frames p.last q.last

-- More bytes don't change what stands at the front.
use Rattle.std.proofs.Common.{◌≡◌, ℕ, zero, suc, ◌-◌, ◌≤◌, List, [], ◌∷◌, ◌++◌, length, take, drop, refl, sym, ◌∙◌, ap, arith, inl, inr, append_assoc, length-append}
use Rattle.std.proofs.lemmas.List.{take-append-drop, take-append-le, take_at, take-take, length-take-le}
use Rattle.gs_frames.specs.Header.{BeginsWithHeader, HasBrokenLine, HasHeaderFault, lines_then}
use Rattle.gs_frames.specs.Frames.{BeginsWithFrame, IsTooLong, AreFrames}
use Rattle.gs_frames.proofs.Lined.{lines_then_more}
use Rattle.gs_frames.proofs.Fronts.{begins_no_fault}

split_take : (n : ℕ) (a b : List ℕ) → take n (a ++ b) ≡ take n a ++ take (n - length a) b
split_take zero a b = let e : zero - length a ≡ zero = omega arith in rw e refl
split_take (suc n) [] b = let e : suc n - zero ≡ suc n = omega arith in rw e refl
split_take (suc n) (x ∷ a) b =
    let e : suc n - suc (length a) ≡ n - length a = omega arith in
    rw e (ap (λ (t : List ℕ). x ∷ t) (split_take n a b))

pub broken_more : (a b : List ℕ) → HasBrokenLine a → HasBrokenLine (a ++ b)
broken_more a b h = record {
  fields = h.fields;
  line = h.line;
  more = h.more ++ b;
  before = h.before;
  front = ap (λ (t : List ℕ). t ++ b) h.front ∙ (lines_then_more h.fields (h.line ++ 10 ∷ h.more) b ∙ ap (lines_then h.fields) (append_assoc h.line (10 ∷ h.more) b));
  no_lf = h.no_lf;
  no_field = h.no_field;
  no_end = h.no_end;
}

pub begins_more : (a b : List ℕ) (n : ℕ) → BeginsWithHeader a n → BeginsWithHeader (a ++ b) n
begins_more a b n h = record {
  header = h.header;
  more = h.more ++ b;
  well_formed = h.well_formed;
  near = h.near;
  front = ap (λ (t : List ℕ). t ++ b) h.front ∙ append_assoc h.header h.more b;
}

-- a header that is no longer than the front stands in it
pub begins_less : (a b : List ℕ) (n : ℕ) → 1024 ≤ length a → BeginsWithHeader (a ++ b) n → BeginsWithHeader a n
begins_less a b n long h =
    let within : length h.header ≤ length a = omega (arith, h.near) in
    let header : take (length h.header) a ≡ h.header =
    sym (take-append-le (length h.header) a b within) ∙ (ap (take (length h.header)) h.front ∙ take_at h.header h.more (length h.header) refl) in
    record {
      header = h.header;
      more = drop (length h.header) a;
      well_formed = h.well_formed;
      near = h.near;
      front = sym (take-append-drop (length h.header) a) ∙ ap (λ (t : List ℕ). t ++ drop (length h.header) a) header;
    }

pub fault_more : (a b : List ℕ) → HasHeaderFault a → HasHeaderFault (a ++ b)
fault_more a b (inl broken) = inl (rw (split_take 1024 a b) (broken_more (take 1024 a) (take (1024 - length a) b) broken))
fault_more a b (inr none) = inr (omega (arith, none.0, length-append a b), λ n h. none.1 n (begins_less a b n none.0 h))

-- a fault is in the first bytes
pub fault_near : (a : List ℕ) → HasHeaderFault a → HasHeaderFault (take 1024 a)
fault_near a (inl broken) = inl (rw (take-take 1024 1024 a (omega arith)) broken)
fault_near a (inr none) =
    inr (omega (arith, length-take-le 1024 a none.0), λ n h. none.1 n (rw (take-append-drop 1024 a) at (begins_more (take 1024 a) (drop 1024 a) n h)))

pub too_long_more : (a b : List ℕ) (n : ℕ) → IsTooLong a n → IsTooLong (a ++ b) n
too_long_more a b n t = record { begins = begins_more a b n t.begins; above = t.above }

pub frame_more : (a b body more : List ℕ) → BeginsWithFrame a body more → BeginsWithFrame (a ++ b) body (more ++ b)
frame_more a b body more f = record {
  frame = f.frame;
  is_frame = f.is_frame;
  front = ap (λ (t : List ℕ). t ++ b) f.front ∙ append_assoc f.frame more b;
}

pub frames_more : (a b : List ℕ) (bodies : List (List ℕ)) (rest : List ℕ) → AreFrames a bodies rest → AreFrames (a ++ b) bodies (rest ++ b)
frames_more a b [] rest e = ap (λ (t : List ℕ). t ++ b) e
frames_more a b (body ∷ bodies) rest f = (f.0 ++ b, frame_more a b body f.0 f.1, frames_more f.0 b bodies rest f.2)

-- where a fault stands, no header comes, whatever follows
pub fault_is_last : (a b : List ℕ) (n : ℕ) → HasHeaderFault a → BeginsWithHeader (a ++ b) n → ⊥
fault_is_last a b n h g = begins_no_fault (a ++ b) n g (fault_more a b h)

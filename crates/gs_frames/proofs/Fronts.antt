-- What stands at the front of a stream is one thing.
use Rattle.std.proofs.Common.{◌≡◌, ℕ, ◌+◌, ◌-◌, ◌<◌, ◌≤◌, List, ◌++◌, length, take, drop, add-zero, sym, ◌∙◌, ap, arith, inl, inr, append_assoc, length-append, length-drop}
use Rattle.std.proofs.Math.Seq.{take-append-add}
use Rattle.std.proofs.lemmas.List.{take-append-drop, take-take, length-take-le, drop-take}
use Rattle.gs_frames.specs.Header.{IsHeader, BeginsWithHeader, HasHeaderFault}
use Rattle.gs_frames.specs.Frames.{IsFrame, BeginsWithFrame, IsIncomplete}
use Rattle.gs_frames.specs.Lines.{IsFrontOf, IsHead}
use Rattle.gs_frames.specs.Unread.{Unread}
use Rattle.gs_frames.specs.Calls.{TakesFrame}
use Rattle.gs_frames.specs.declared.front.Front.TheVariants.{Frame}
use Rattle.gs_frames.specs.declared.header.Head.TheVariants.{Open}
use Rattle.gs_frames.proofs.Lined.{OneHeader, one_header, header_unbroken, header_some}

abbrev same_record : ℕ → List ℕ → Unread
same_record n rest = record { at = n; rest = rest }

abbrev pub same_place : Unread → Unread → Type 0
same_place a b = a ≡ b

-- a header near the front lies within the first bytes
take_over : (n : ℕ) (a x : List ℕ) → length a ≤ n → take n (a ++ x) ≡ a ++ take (n - length a) x
take_over n a x h =
    let e : n ≡ length a + (n - length a) = omega arith in
    ap (λ (k : ℕ). take k (a ++ x)) e ∙ take-append-add a x (n - length a)

pub window_of : (bytes header more : List ℕ) → bytes ≡ header ++ more → length header ≤ 1024 → take 1024 bytes ≡ header ++ take (1024 - length header) more
window_of bytes header more e near = ap (take 1024) e ∙ take_over 1024 header more near

pub begins_no_fault : (bytes : List ℕ) (n : ℕ) → BeginsWithHeader bytes n → HasHeaderFault bytes → ⊥
begins_no_fault bytes n b (inl broken) =
    let e = window_of bytes b.header b.more b.front b.near in
    header_unbroken b.header (take (1024 - length b.header) b.more) n b.well_formed (rw (← e) broken)
begins_no_fault bytes n b (inr none) = none.1 n b

pub one_number : (bytes : List ℕ) (m n : ℕ) (a : BeginsWithHeader bytes m) (b : BeginsWithHeader bytes n) → OneHeader a.header b.header a.more b.more m n
one_number bytes m n a b = one_header a.header b.header a.more b.more m n a.well_formed b.well_formed (sym a.front ∙ b.front)

abbrev pub frame_begins : (bytes body more : List ℕ) → BeginsWithFrame bytes body more → BeginsWithHeader bytes (length body)
frame_begins bytes body more b = record {
  header = b.is_frame.header;
  more = body ++ more;
  well_formed = b.is_frame.well_formed;
  near = b.is_frame.near;
  front = b.front ∙ (ap (λ (t : List ℕ). t ++ more) b.is_frame.whole ∙ append_assoc b.is_frame.header body more);
}

abbrev pub begins_at : (bytes : List ℕ) (n size : ℕ) → size ≤ length bytes → size ≤ 1024 → IsHeader (take size bytes) n → BeginsWithHeader bytes n
begins_at bytes n size within near h = record {
  header = take size bytes;
  more = drop size bytes;
  well_formed = h;
  near = omega (arith, length-take-le size bytes within);
  front = sym (take-append-drop size bytes);
}

-- behind a header whose number isn't too large, too few bytes stand
pub too_few : (bytes : List ℕ) (n : ℕ) (b : BeginsWithHeader bytes n) → n ≤ 67_108_864 → length b.more < n → IsIncomplete bytes
too_few bytes n b small few = record {
  no_frame = λ body more w.
      let o = one_number bytes n (length body) b (frame_begins bytes body more w) in
      absurd (omega (arith, o.number, ap length o.more, length-append body more, few));
  no_fault = begins_no_fault bytes n b;
  not_too_long = λ m t.
      let o = one_number bytes n m b t.begins in
      absurd (omega (arith, o.number, t.above));
}

pub frame_at : (bytes : List ℕ) (n size : ℕ) → size ≤ length bytes → size ≤ 1024 → IsHeader (take size bytes) n → n ≤ 67_108_864 → size + n ≤ length bytes
    → IsFrame (take (size + n) bytes) (drop size (take (size + n) bytes))
frame_at bytes n size within near h small whole =
    let long : length (drop size (take (size + n) bytes)) ≡ n = omega (arith, length-drop size (take (size + n) bytes), length-take-le (size + n) bytes whole) in
    record {
      header = take size bytes;
      well_formed = rw long h;
      near = omega (arith, length-take-le size bytes within);
      short = omega (arith, long);
      whole = sym (take-append-drop size (take (size + n) bytes)) ∙ ap (λ (t : List ℕ). t ++ drop size (take (size + n) bytes)) (take-take size (size + n) bytes (omega arith));
    }

-- no header within the first bytes
no_header_in : (bytes : List ℕ) → IsHead (take 1024 bytes) Open → (n : ℕ) → BeginsWithHeader bytes n → ⊥
no_header_in bytes o n b = o.0 b.header (take (1024 - length b.header) b.more) n b.well_formed (window_of bytes b.header b.more b.front b.near)

pub fault_in : (bytes : List ℕ) → IsHead (take 1024 bytes) Open → 1024 ≤ length bytes → HasHeaderFault bytes
fault_in bytes o long = inr (long, no_header_in bytes o)

unbroken_in : (bytes : List ℕ) → IsHead (take 1024 bytes) Open → length bytes < 1024 → HasHeaderFault bytes → ⊥
unbroken_in bytes o short (inl broken) = o.1 broken
unbroken_in bytes o short (inr long) = absurd (omega (arith, long.0))

pub incomplete_in : (bytes : List ℕ) → IsHead (take 1024 bytes) Open → length bytes < 1024 → IsIncomplete bytes
incomplete_in bytes o short = record {
  no_frame = λ body more w. no_header_in bytes o (length body) (frame_begins bytes body more w);
  no_fault = unbroken_in bytes o short;
  not_too_long = λ n t. no_header_in bytes o n t.begins;
}

-- the body that is copied is the frame's
body_at : (rest : List ℕ) (start end : ℕ) → start ≤ end → drop start (take end rest) ≡ take (end - start) (drop start rest)
body_at rest start end h =
    let e : end ≡ start + (end - start) = omega arith in
    ap (λ (n : ℕ). drop start (take n rest)) e ∙ drop-take start (end - start) rest

pub frame_begins_at : (rest : List ℕ) (start end : ℕ) → IsFrontOf rest (Frame start end) → BeginsWithFrame rest (take (end - start) (drop start rest)) (drop end rest)
frame_begins_at rest start end f = record {
  frame = take end rest;
  is_frame = rw (← body_at rest start end f.0) f.2;
  front = sym (take-append-drop end rest);
}

some_taken : (rest body more : List ℕ) → BeginsWithFrame rest body more → length more < length rest
some_taken rest body more b =
    omega (arith, ap length b.front, length-append b.frame more, ap length b.is_frame.whole, length-append b.is_frame.header body, header_some b.is_frame.header (length body) b.is_frame.well_formed)

pub takes_frame : (at : ℕ) (rest body : List ℕ) (start end : ℕ) → IsFrontOf rest (Frame start end) → body ≡ take (end - start) (drop start rest)
    → TakesFrame (record { at = at; rest = rest }) body (record { at = at + end; rest = drop end rest })
takes_frame at rest body start end f e =
    let whole = frame_begins_at rest start end f in
    record {
      front = rw e whole;
      place = omega (arith, f.1, length-drop end rest);
      shorter = some_taken rest (take (end - start) (drop start rest)) (drop end rest) whole;
    }

pub stays_at : (at : ℕ) (rest : List ℕ) → same_place (record { at = at + 0; rest = rest }) (record { at = at; rest = rest })
stays_at at rest = ap (λ (n : ℕ). same_record n rest) (add-zero at)

-- The frames of a stream: the Language Server Protocol 3.17, "Base Protocol".
use Rattle.std.specs.Prelude.{◌≡◌, ℕ, ◌<◌, ◌≤◌, List, [], ◌∷◌, ◌++◌, length, codes, decimal}
use Rattle.gs_frames.specs.Header.{IsHeader, BeginsWithHeader, HasHeaderFault}

-- A frame with this body: a header of at most 1,024 bytes, and as many bytes as it says, at most 67,108,864.
pub record IsFrame (frame body : List ℕ) : Type 0 where
  pub header : List ℕ
  pub well_formed : IsHeader header (length body)
  pub near : length header ≤ 1024
  pub short : length body ≤ 67_108_864
  pub whole : frame ≡ header ++ body

-- a whole frame with this body stands at the front, and then more
pub record BeginsWithFrame (bytes body more : List ℕ) : Type 0 where
  pub frame : List ℕ
  pub is_frame : IsFrame frame body
  pub front : bytes ≡ frame ++ more

-- no whole frame stands at the front
abbrev pub HasNoFrame : List ℕ → Type 0
HasNoFrame bytes = (body more : List ℕ) → BeginsWithFrame bytes body more → ⊥

-- a well-formed header stands at the front, whose number is above 67,108,864
pub record IsTooLong (bytes : List ℕ) (n : ℕ) : Type 0 where
  pub begins : BeginsWithHeader bytes n
  pub above : 67_108_864 < n

-- nothing is settled yet: no whole frame is at the front, no header fault, and no number that is too large
pub record IsIncomplete (bytes : List ℕ) : Type 0 where
  pub no_frame : HasNoFrame bytes
  pub no_fault : HasHeaderFault bytes → ⊥
  pub not_too_long : (n : ℕ) → IsTooLong bytes n → ⊥

-- The bytes are the frames with these bodies, in order, and then this rest.
abbrev pub AreFrames : List ℕ → List (List ℕ) → List ℕ → Type 0
AreFrames bytes [] rest = bytes ≡ rest
AreFrames bytes (body ∷ bodies) rest = (more : List ℕ) × BeginsWithFrame bytes body more × AreFrames more bodies rest

-- The bytes are read as far as they hold whole frames: these, and a rest at which no further one stands.
pub record IsReading (bytes : List ℕ) (bodies : List (List ℕ)) (rest : List ℕ) : Type 0 where
  pub frames : AreFrames bytes bodies rest
  pub last : HasNoFrame rest

-- the frame in which a body is written
abbrev pub frame_of : List ℕ → List ℕ
frame_of body = codes "Content-Length: " ++ (decimal (length body) ++ (13 ∷ 10 ∷ 13 ∷ 10 ∷ body))

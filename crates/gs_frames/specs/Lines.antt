-- What the private functions answer on the lines of a header.
use Rattle.std.specs.Prelude.{◌≡◌, ℕ, ◌≤◌, true, false, Option, Some, None, List, [], ◌∷◌, ◌++◌, length, take, drop}
use Rattle.std.specs.Option.{option_to_list}
use Rattle.std.specs.Str.Parse.{digits_value}
use Rattle.gs_frames.specs.Header.{has, IsField, is_content_length, value_of, numbers_of, IsHeader, HasBrokenLine, HasHeaderFault}
use Rattle.gs_frames.specs.Frames.{IsFrame, IsTooLong, IsIncomplete}
use Rattle.gs_frames.specs.declared.field.Field.{Field}
use Rattle.gs_frames.specs.declared.field.Field.TheVariants.{Length, Other, Broken as BrokenField}
use Rattle.gs_frames.specs.declared.header.Turn.{Turn}
use Rattle.gs_frames.specs.declared.header.Turn.TheVariants.{Next, End, Broken as BrokenLine}
use Rattle.gs_frames.specs.declared.header.Head.{Head}
use Rattle.gs_frames.specs.declared.header.Head.TheVariants.{Whole, Broken, Open}
use Rattle.gs_frames.specs.declared.front.Front.{Front}
use Rattle.gs_frames.specs.declared.front.Front.TheVariants.{Incomplete, Fault, TooLong, Frame}

-- what a line is read as
abbrev pub IsReadAs : List ℕ → Field → Type 0
IsReadAs line (Length n) = IsField line × (is_content_length line ≡ true) × (n ≡ digits_value 10 (value_of line))
IsReadAs line Other = IsField line × (is_content_length line ≡ false)
IsReadAs line BrokenField = IsField line → ⊥

-- the bytes are cut at the first byte c
pub record Cuts (c : ℕ) (bytes front rest : List ℕ) : Type 0 where
  pub whole : bytes ≡ front ++ c ∷ rest
  pub first : has c front ≡ false

-- the numbers of a header's fields, with this one behind
abbrev pub numbers_with : Option ℕ → List ℕ → List ℕ
numbers_with said field = option_to_list said ++ numbers_of (field ∷ [])

-- what a line is, without its LF, behind fields that gave this number, if any
abbrev pub IsTurn : Option ℕ → List ℕ → Turn → Type 0
IsTurn said line (Next now) = (field : List ℕ) × (line ≡ field ++ 13 ∷ []) × IsField field × (option_to_list now ≡ numbers_with said field)
IsTurn said line (End n) = (line ≡ 13 ∷ []) × (said ≡ Some n)
IsTurn said line BrokenLine = ((field : List ℕ) → line ≡ field ++ 13 ∷ [] → IsField field → length (numbers_with said field) ≤ 1 → ⊥)
    × (line ≡ 13 ∷ [] → said ≡ None)

-- what stands at the front: a header and its length, a broken line, or neither
abbrev pub IsHead : List ℕ → Head → Type 0
IsHead bytes (Whole n size) = (size ≤ length bytes) × IsHeader (take size bytes) n
IsHead bytes Broken = HasBrokenLine bytes
IsHead bytes Open = ((header more : List ℕ) (n : ℕ) → IsHeader header n → bytes ≡ header ++ more → ⊥) × (HasBrokenLine bytes → ⊥)

-- what stands at the front of a stream: a frame whose body lies from start to end, or what else
abbrev pub IsFrontOf : List ℕ → Front → Type 0
IsFrontOf bytes Incomplete = IsIncomplete bytes
IsFrontOf bytes Fault = HasHeaderFault bytes
IsFrontOf bytes (TooLong n) = IsTooLong bytes n
IsFrontOf bytes (Frame start end) = (start ≤ end) × (end ≤ length bytes) × IsFrame (take end bytes) (drop start (take end bytes))

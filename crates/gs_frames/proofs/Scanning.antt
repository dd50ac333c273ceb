-- Reading a header line by line.
use Rattle.std.proofs.Common.{◌≡◌, ℕ, ◌-◌, ◌≤◌, false, Option, Some, None, List, [], ◌∷◌, ◌++◌, length, take, refl, sym, ◌∙◌, ap, arith, append_assoc, length-append}
use Rattle.std.specs.Option.{option_to_list}
use Rattle.std.proofs.lemmas.List.{take_at}
use Rattle.gs_frames.specs.Header.{has, AreFields, IsHeader, HasBrokenLine, lines_then, numbers_of}
use Rattle.gs_frames.specs.Lines.{Cuts, IsTurn, IsHead}
use Rattle.gs_frames.specs.declared.header.Turn.TheVariants.{Next, End, Broken as BrokenLine}
use Rattle.gs_frames.specs.declared.header.Head.TheVariants.{Whole, Open}
use Rattle.gs_frames.proofs.Lined.{lines_then-append, lines_then_more, numbers_of-append, each-append, each_back, rest_within, IsOpen, open_no_header, open_unbroken}

-- fields were read, which gave this number, if any, and the rest is left
pub record Scanned (bytes rest : List ℕ) (said : Option ℕ) : Type 0 where
  pub fields : List (List ℕ)
  pub are : AreFields fields
  pub text : bytes ≡ lines_then fields rest
  pub numbers : numbers_of fields ≡ option_to_list said

pub at_first : (bytes : List ℕ) → Scanned bytes bytes None
at_first bytes = record { fields = []; are = record { each = tt; once = omega arith }; text = refl; numbers = refl }

at_most_one : (said : Option ℕ) → length (option_to_list said) ≤ 1
at_most_one None = omega arith
at_most_one (Some n) = omega arith

-- a line is left out of the rest
line_of : (rest line behind field : List ℕ) → Cuts 10 rest line behind → line ≡ field ++ 13 ∷ [] → rest ≡ field ++ 13 ∷ 10 ∷ behind
line_of rest line behind field c e = c.whole ∙ (ap (λ (t : List ℕ). t ++ 10 ∷ behind) e ∙ append_assoc field (13 ∷ []) (10 ∷ behind))

pub after_field : (bytes rest line behind : List ℕ) (said now : Option ℕ) → Scanned bytes rest said → Cuts 10 rest line behind → IsTurn said line (Next now) → Scanned bytes behind now
after_field bytes rest line behind said now s c t =
    let field : List ℕ = t.0 in
    let fields : List (List ℕ) = s.fields ++ field ∷ [] in
    let numbers : numbers_of fields ≡ option_to_list now = numbers_of-append s.fields (field ∷ []) ∙ (ap (λ (xs : List ℕ). xs ++ numbers_of (field ∷ [])) s.numbers ∙ sym t.3) in
    record {
      fields = fields;
      are = record { each = each-append s.fields (field ∷ []) s.are.each (t.2, tt); once = rw numbers (at_most_one now) };
      text = s.text ∙ (ap (lines_then s.fields) (line_of rest line behind field c t.1) ∙ sym (lines_then-append s.fields (field ∷ []) behind));
      numbers = numbers;
    }

size_of : (bytes header behind : List ℕ) → bytes ≡ header ++ behind → length bytes - length behind ≡ length header
size_of bytes header behind e = omega (arith, ap length e, length-append header behind)

head_at : (bytes header behind : List ℕ) (n size : ℕ) → bytes ≡ header ++ behind → IsHeader header n → size ≡ length bytes - length behind → IsHead bytes (Whole n size)
head_at bytes header behind n size e h is =
    let long : size ≡ length header = is ∙ size_of bytes header behind e in
    let front : take size bytes ≡ header = ap (take size) e ∙ take_at header behind size (sym long) in
    (omega (arith, ap length e, length-append header behind), rw front h)

pub at_the_end : (bytes rest line behind : List ℕ) (said : Option ℕ) (n size : ℕ) → Scanned bytes rest said → Cuts 10 rest line behind → IsTurn said line (End n)
    → size ≡ length bytes - length behind → IsHead bytes (Whole n size)
at_the_end bytes rest line behind said n size s c t is =
    head_at bytes (lines_then s.fields (13 ∷ 10 ∷ [])) behind n size
    (s.text ∙ (ap (lines_then s.fields) (c.whole ∙ ap (λ (u : List ℕ). u ++ 10 ∷ behind) t.0) ∙ sym (lines_then_more s.fields (13 ∷ 10 ∷ []) behind)))
    (record { fields = s.fields; each = s.are.each; number = s.numbers ∙ ap option_to_list t.1; lines = refl })
    is

pub at_broken : (bytes rest line behind : List ℕ) (said : Option ℕ) → Scanned bytes rest said → Cuts 10 rest line behind → IsTurn said line BrokenLine → HasBrokenLine bytes
at_broken bytes rest line behind said s c t = record {
  fields = s.fields;
  line = line;
  more = behind;
  before = s.are;
  front = s.text ∙ ap (lines_then s.fields) c.whole;
  no_lf = c.first;
  no_field = λ field e all. t.0 field e (each_back s.fields (field ∷ []) all.each).0 (rw (← s.numbers) (rw (← (numbers_of-append s.fields (field ∷ []))) all.once));
  no_end = λ e. s.numbers ∙ ap option_to_list (t.1 e);
}

pub at_last : (bytes rest : List ℕ) (said : Option ℕ) → Scanned bytes rest said → has 10 rest ≡ false → IsHead bytes Open
at_last bytes rest said s none =
    let open' : IsOpen bytes = record { fields = s.fields; rest = rest; are = s.are; text = s.text; no_lf = none } in
    ((λ header more n h e. open_no_header header more n h (rw (← e) open')), λ h. open_unbroken bytes h open')

pub behind_within : (bytes rest line behind : List ℕ) (said : Option ℕ) → Scanned bytes rest said → Cuts 10 rest line behind → length behind ≤ length bytes
behind_within bytes rest line behind said s c =
    omega (arith, ap length s.text, rest_within s.fields rest, ap length c.whole, length-append line (10 ∷ behind))

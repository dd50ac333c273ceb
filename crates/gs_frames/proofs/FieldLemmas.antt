-- Lemmas on one field.
use Rattle.std.proofs.Common.{◌≡◌, ℕ, true, false, List, [], ◌∷◌, ◌++◌, refl, sym, ◌∙◌, ap, eqb}
use Rattle.std.specs.Str.{IsUtf8}
use Rattle.std.specs.Str.Parse.{digits_value}
use Rattle.std.proofs.lemmas.Bool.{eq-eqb}
use Rattle.gs_frames.specs.Header.{has, before, behind, names_length, value_of, without_blanks_before, without_blanks_behind, IsField, IsNumber, is_content_length}
use Rattle.gs_frames.specs.Lines.{Cuts, IsReadAs}
use Rattle.gs_frames.specs.declared.field.Field.TheVariants.{Length, Other, Broken}
use Rattle.gs_frames.proofs.Bytes.{has_at, or_left, or_right}

before_at : (c : ℕ) (a x : List ℕ) → has c a ≡ false → before c (a ++ c ∷ x) ≡ a
before_at c [] x h = rw (eq-eqb c c refl) refl
before_at c (b ∷ a) x h = rw (or_left (eqb b c) (has c a) h, before_at c a x (or_right (eqb b c) (has c a) h)) refl

behind_at : (c : ℕ) (a x : List ℕ) → has c a ≡ false → behind c (a ++ c ∷ x) ≡ x
behind_at c [] x h = rw (eq-eqb c c refl) refl
behind_at c (b ∷ a) x h = rw (or_left (eqb b c) (has c a) h) (behind_at c a x (or_right (eqb b c) (has c a) h))

-- what a field is whose first colon stands between these parts
pub record Parted (line name value : List ℕ) : Type 0 where
  colon : has 58 line ≡ true
  named : is_content_length line ≡ names_length name
  valued : value_of line ≡ without_blanks_behind (without_blanks_before value)

pub parted : (line name value : List ℕ) → Cuts 58 line name value → Parted line name value
parted line name value c = record {
  colon = ap (has 58) c.whole ∙ has_at 58 name value;
  named = ap names_length (ap (before 58) c.whole ∙ before_at 58 name value c.first);
  valued = ap (λ (t : List ℕ). without_blanks_behind (without_blanks_before t)) (ap (behind 58) c.whole ∙ behind_at 58 name value c.first);
}

pub other : (line name value : List ℕ) → has 13 line ≡ false → has 10 line ≡ false → IsUtf8 line → Cuts 58 line name value → names_length name ≡ false → IsReadAs line Other
other line name value cr lf u c n =
    let p = parted line name value c in
    let not : is_content_length line ≡ false = p.named ∙ n in
    (record { no_cr = cr; no_lf = lf; utf8 = u; colon = p.colon; number = λ e. absurd (cc) }, not)

pub length_field : (line name value : List ℕ) (n : ℕ) → has 13 line ≡ false → has 10 line ≡ false → IsUtf8 line → Cuts 58 line name value → names_length name ≡ true
    → IsNumber (without_blanks_behind (without_blanks_before value)) → n ≡ digits_value 10 (without_blanks_behind (without_blanks_before value)) → IsReadAs line (Length n)
length_field line name value n cr lf u c named number is =
    let p = parted line name value c in
    (record { no_cr = cr; no_lf = lf; utf8 = u; colon = p.colon; number = λ e. rw p.valued number }, p.named ∙ named, is ∙ ap (digits_value 10) (sym p.valued))

pub no_number : (line name value : List ℕ) → Cuts 58 line name value → names_length name ≡ true
    → (IsNumber (without_blanks_behind (without_blanks_before value)) → ⊥) → IsReadAs line Broken
no_number line name value c named none = λ (f : IsField line).
    let p = parted line name value c in
    none (rw p.valued at f.number (p.named ∙ named))

-- What is written is read.
use Rattle.std.proofs.Common.{◌≡◌, ℕ, zero, suc, ◌^◌, ◌<◌, ◌≤◌, Bool, true, false, List, [], ◌∷◌, ◌++◌, length, get_or, refl, sym, ◌∙◌, ap, arith, append_assoc, length-append, codes, ltb, ◌&&◌}
use Rattle.std.specs.List.{list_all, flat_map, AllByRecursion}
use Rattle.std.specs.Char.{is_ascii_digit}
use Rattle.std.specs.Str.Parse.{digits_value}
use Rattle.std.specs.Fmt.{decimal}
use Rattle.std.proofs.lemmas.Bool.{ne_eqb, lt-ltb}
use Rattle.std.proofs.lemmas.Bool.Decides.{nat_tests}
use Rattle.std.proofs.lemmas.Fmt.{decimal_is_IsNumeral, decimal_nonempty, length-decimal-le, digits_value-decimal}
use Rattle.std.proofs.lemmas.Str.{IsUtf8-from_ascii}
use Rattle.gs_frames.specs.Header.{IsHeader, IsField, IsNumber, has, is_blank, value_of, lines_then, without_blanks_before, without_blanks_behind}
use Rattle.gs_frames.specs.Frames.{BeginsWithFrame, IsTooLong, AreFrames, frame_of}
use Rattle.gs_frames.proofs.Bytes.{own, same_digits, digits_later}

digit_is : (x : ℕ) (b : Bool) → (is_ascii_digit x && b) ≡ true → (48 ≤ x) × (x ≤ 57)
digit_is x b h = (grind (arith, nat_tests), grind (arith, nat_tests))

-- no byte below the digits is among them
digits_lack : (c : ℕ) → c < 48 → (t : List ℕ) → list_all is_ascii_digit t ≡ true → has c t ≡ false
digits_lack c low [] h = refl
digits_lack c low (x ∷ t) h =
    let d = digit_is x (list_all is_ascii_digit t) h in
    rw (ne_eqb x c (λ e. omega (arith, d.0, e))) (digits_lack c low t (digits_later x (list_all is_ascii_digit t) h))

no_blank : (x : ℕ) → 48 ≤ x → is_blank x ≡ false
no_blank x h = rw (ne_eqb x 32 (λ e. omega (arith, e)), ne_eqb x 9 (λ e. omega (arith, e))) refl

digits_before : (t : List ℕ) → list_all is_ascii_digit t ≡ true → without_blanks_before t ≡ t
digits_before [] h = refl
digits_before (x ∷ t) h = rw (no_blank x (digit_is x (list_all is_ascii_digit t) h).0) refl

digits_behind : (t : List ℕ) → list_all is_ascii_digit t ≡ true → without_blanks_behind t ≡ t
digits_behind [] h = refl
digits_behind (x ∷ t) h =
    rw (no_blank x (digit_is x (list_all is_ascii_digit t) h).0) (ap (λ (u : List ℕ). x ∷ u) (digits_behind t (digits_later x (list_all is_ascii_digit t) h)))

-- ASCII by a test
small : List ℕ → Bool
small t = list_all (λ b. ltb b 128) t

first_small : (x : ℕ) (b : Bool) → (ltb x 128 && b) ≡ true → x < 128
first_small x b h = grind (arith, nat_tests)

later_small : (a b : Bool) → (a && b) ≡ true → b ≡ true
later_small true b h = h
later_small false b h = absurd (cc)

small_at : (t : List ℕ) → list_all (λ b. ltb b 128) t ≡ true → (i : ℕ) → get_or t i 0 < 128
small_at [] h i = omega arith
small_at (x ∷ t) h zero = first_small x (list_all (λ b. ltb b 128) t) h
small_at (x ∷ t) h (suc i) = small_at t (later_small (ltb x 128) (list_all (λ b. ltb b 128) t) h) i

digits_small : (t : List ℕ) → list_all is_ascii_digit t ≡ true → list_all (λ b. ltb b 128) t ≡ true
digits_small [] h = refl
digits_small (x ∷ t) h =
    let d = digit_is x (list_all is_ascii_digit t) h in
    rw (lt-ltb x 128 (omega (arith, d.1))) (digits_small t (digits_later x (list_all is_ascii_digit t) h))

-- the field that is written
abbrev field_of : ℕ → List ℕ
field_of n = codes "Content-Length: " ++ decimal n

small_enough : (n : ℕ) → n < 10 ^ 19 → n < 2 ^ 64
small_enough n h = omega arith

all_digits : (n : ℕ) → n < 10 ^ 19 → list_all is_ascii_digit (decimal n) ≡ true
all_digits n h = sym (same_digits (decimal n)) ∙ own.from (decimal n) (decimal_is_IsNumeral n (small_enough n h)).0.1

written_number : (n : ℕ) → n < 10 ^ 19 → IsNumber (decimal n)
written_number n h = record {
  digits = all_digits n h;
  some = decimal_nonempty n (small_enough n h);
  few = length-decimal-le 19 n (omega arith) h (small_enough n h);
}

value_is : (n : ℕ) → n < 10 ^ 19 → value_of (field_of n) ≡ decimal n
value_is n h = ap without_blanks_behind (digits_before (decimal n) (all_digits n h)) ∙ digits_behind (decimal n) (all_digits n h)

written_field : (n : ℕ) → n < 10 ^ 19 → IsField (field_of n)
written_field n h = record {
  no_cr = digits_lack 13 (omega arith) (decimal n) (all_digits n h);
  no_lf = digits_lack 10 (omega arith) (decimal n) (all_digits n h);
  utf8 = IsUtf8-from_ascii (field_of n) (small_at (field_of n) (digits_small (decimal n) (all_digits n h)));
  colon = refl;
  number = λ _. rw (value_is n h) (written_number n h);
}

abbrev header_of : ℕ → List ℕ
header_of n = lines_then (field_of n ∷ []) (13 ∷ 10 ∷ [])

written_header : (n : ℕ) → n < 10 ^ 19 → IsHeader (header_of n) n
written_header n h = record {
  fields = field_of n ∷ [];
  each = (written_field n h, tt);
  number = ap (λ (k : ℕ). k ∷ []) (ap (digits_value 10) (value_is n h) ∙ digits_value-decimal own n (small_enough n h));
  lines = refl;
}

written_near : (n : ℕ) → n < 10 ^ 19 → length (header_of n) ≤ 1024
written_near n h = omega (arith, (written_number n h).few, length-append (decimal n) (13 ∷ 10 ∷ 13 ∷ 10 ∷ []))

written_whole : (body : List ℕ) → frame_of body ≡ header_of (length body) ++ body
written_whole body = rw (append_assoc (decimal (length body)) (13 ∷ 10 ∷ 13 ∷ 10 ∷ []) body) refl

pub written_frame : (body more : List ℕ) → length body ≤ 67_108_864 → BeginsWithFrame (frame_of body ++ more) body more
written_frame body more short = record {
  frame = frame_of body;
  is_frame = record {
    header = header_of (length body);
    well_formed = written_header (length body) (omega arith);
    near = written_near (length body) (omega arith);
    short = short;
    whole = written_whole body;
  };
  front = refl;
}

pub written_too_long : (body more : List ℕ) → 67_108_864 < length body → length body < 10 ^ 19 → IsTooLong (frame_of body ++ more) (length body)
written_too_long body more long fits = record {
  begins = record {
    header = header_of (length body);
    more = body ++ more;
    well_formed = written_header (length body) fits;
    near = written_near (length body) fits;
    front = ap (λ (t : List ℕ). t ++ more) (written_whole body) ∙ append_assoc (header_of (length body)) body more;
  };
  above = long;
}

pub written_frames : (bodies : List (List ℕ)) (rest : List ℕ) → AllByRecursion (λ body. length body ≤ 67_108_864) bodies → AreFrames (flat_map frame_of bodies ++ rest) bodies rest
written_frames [] rest h = refl
written_frames (body ∷ bodies) rest h = (
  flat_map frame_of bodies ++ rest,
  rw (append_assoc (frame_of body) (flat_map frame_of bodies) rest) (written_frame body (flat_map frame_of bodies ++ rest) h.0),
  written_frames bodies rest h.1,
)

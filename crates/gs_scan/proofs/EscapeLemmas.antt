-- Escapes: what is one is read as itself, whatever follows, and what is read is one.
use Rattle.std.proofs.Common.{◌≡◌, ℕ, suc, ◌+◌, ◌*◌, ◌^◌, ◌<◌, ◌≤◌, Bool, true, false, not, ◌&&◌, ◌||◌, ◌==◌, cond, List, [], ◌∷◌, ◌++◌, length, take, drop, get_or, sym, refl, ap, ◌∙◌, subst, ⊎_elim, arith, Some, None, Option, nat_lt, length-append, length-take-le, take_all}
use Rattle.std.specs.Prelude.{is_none}
use Rattle.std.specs.Char.{is_digit, digit_value, IsScalar}
use lib.Utf8.{scalar}
use Rattle.std.specs.List.{list_all}
use Rattle.std.specs.Option.{option_and_then}
use Rattle.std.specs.Str.Parse.{digits_value, AllDigits}
use Rattle.std.proofs.Math.Nat.{pow-le-pow_left, pow-le-pow_right}
use Rattle.std.proofs.Math.Seq.{take-append_seam}
use Rattle.std.proofs.lemmas.Bool.{false≢true, and_parts, cases_Bool, cases_lt, eqb-true, ne_eqb, ltb-true, lt-ltb, le-ltb}
use Rattle.std.proofs.lemmas.Bool.Decides.{nat_tests}
use Rattle.std.proofs.lemmas.Int.Digits.{digits_value-lt, digits_value_push}
use Rattle.std.proofs.lemmas.List.{take_more}
use Rattle.std.proofs.lemmas.List.Folds.{list_all_more, list_all_at}
use Rattle.ucd_table.proofs.TrieCheck.{all_below, all_below-at}
use Rattle.gs_syntax.specs.Quotes.{escape_value, IsNumeral, IsEscape, letter, octal, hex, short, long}
use Rattle.gs_scan.specs.declared.escape.Item.{Item}
use Rattle.gs_scan.specs.declared.escape.Item.TheVariants.{Byte, Character}
use Rattle.gs_scan.specs.Escapes.{Read, code_of, bytes_of, numeral, numeral_at, byte_of, character_of, byte_escape, character_escape, numbered_at, letter_or, escape_at}

-- ---- numerals

abbrev are_base : ℕ → List ℕ → Bool
are_base base digits = list_all (λ c. is_digit c base) digits

all_digits : (base : ℕ) (digits : List ℕ) → are_base base digits ≡ true → AllDigits base digits
all_digits base [] h = tt
all_digits base (c ∷ cs) h =
    let parts = and_parts (is_digit c base) (are_base base cs) h in
    (ltb-true (digit_value c) base parts.0, all_digits base cs parts.1)

-- the value so far fits, and one more digit keeps the sum
pub numeral_step : (base value digit i : ℕ) (xs : List ℕ) → length xs ≤ 8 → 2 ≤ base → base ≤ 16 → i < length xs
    → value ≡ digits_value base (take i xs) → are_base base (take i xs) ≡ true → digit_value (get_or xs i 0) < base → digit ≡ digit_value (get_or xs i 0)
    → (value * base + digit ≡ digits_value base (take (i + 1) xs)) × (are_base base (take (i + 1) xs) ≡ true) × (value * base + digit < 2 ^ 32)
numeral_step base value digit i xs small low high within is_value are below is_digit_value =
    let more : are_base base (take (i + 1) xs) ≡ true =
    list_all_more (λ c. is_digit c base) xs i 0 within ∙ (λ j. are j && lt-ltb (digit_value (get_or xs i 0)) base below j) in
    let sum : value * base + digit ≡ digits_value base (take (i + 1) xs) =
    (λ j. is_value j * base + is_digit_value j) ∙ sym (digits_value_push base (take i xs) (get_or xs i 0)) ∙ ap (digits_value base) (sym (take_more xs i 0 within)) in
    let bound = digits_value-lt base (take (i + 1) xs) (all_digits base (take (i + 1) xs) more) in
    let count : length (take (i + 1) xs) ≡ i + 1 = length-take-le (i + 1) xs (omega arith) in
    let bases = pow-le-pow_left high (length (take (i + 1) xs)) in
    let few : length (take (i + 1) xs) ≤ 8 = omega (arith, count) in
    let places : 16 ^ length (take (i + 1) xs) ≤ 16 ^ 8 = pow-le-pow_right (omega arith) few in
    let all : 16 ^ 8 ≡ 2 ^ 32 = refl in
    (sum, more, omega (arith, sum, bound, bases, places, all))

pub numeral_none : (base i : ℕ) (xs : List ℕ) → i < length xs → (digit_value (get_or xs i 0) < base → ⊥) → None ≡ numeral base xs
numeral_none base i xs within other =
    let no : is_digit (get_or xs i 0) base ≡ false = ⊎_elim (λ less. absurd (other less)) (λ more. le-ltb (digit_value (get_or xs i 0)) base more) (cases_lt (digit_value (get_or xs i 0)) base) in
    rw (list_all_at (λ c. is_digit c base) xs i 0 within no) refl

pub numeral_some : (base value i : ℕ) (xs : List ℕ) → length xs ≤ i → value ≡ digits_value base (take i xs) → are_base base (take i xs) ≡ true → Some value ≡ numeral base xs
numeral_some base value i xs at_end is_value are =
    let all = take_all i xs at_end in
    ap (λ v. Some v) (is_value ∙ ap (digits_value base) all) ∙ sym (ap (λ b. cond b (Some (digits_value base xs)) None) (ap (are_base base) (sym all) ∙ are))

pub numeral_read : (base count v : ℕ) (digits r : List ℕ) → IsNumeral base count digits v → numeral_at base count (digits ++ r) ≡ Some v
unfolding numeral_at
numeral_read base count v digits r is =
    let room : nat_lt (length (digits ++ r)) count ≡ false = le-ltb (length (digits ++ r)) count (let n = is.0 in omega (arith, length-append digits r, n)) in
    let front : take count (digits ++ r) ≡ digits = ap (λ k. take k (digits ++ r)) (sym is.0) ∙ take-append_seam digits r in
    ap (λ b. cond b None (numeral base (take count (digits ++ r)))) room ∙ ap (numeral base) front
    ∙ ap (λ b. cond b (Some (digits_value base digits)) None) is.1 ∙ ap (λ n. Some n) (sym is.2)

pub numeral_front : (base count v : ℕ) (t : List ℕ) → numeral_at base count t ≡ Some v → (count ≤ length t) × IsNumeral base count (take count t) v
unfolding numeral_at
numeral_front base count v t h =
    ⊎_elim
    (λ less. let bad : None ≡ Some v = sym (ap (λ b. cond b None (numeral base (take count t))) (lt-ltb (length t) count less)) ∙ h in cc)
    (λ more.
    let e : numeral base (take count t) ≡ Some v = sym (ap (λ b. cond b None (numeral base (take count t))) (le-ltb (length t) count more)) ∙ h in
    ⊎_elim
    (λ are.
    let same : Some (digits_value base (take count t)) ≡ Some v = sym (ap (λ b. cond b (Some (digits_value base (take count t))) None) are) ∙ e in
    let value : digits_value base (take count t) ≡ v = cc in
    (more, (length-take-le count t more, are, sym value)))
    (λ none. let bad : None ≡ Some v = sym (ap (λ b. cond b (Some (digits_value base (take count t))) None) none) ∙ e in cc)
    (cases_Bool (are_base base (take count t))))
    (cases_lt (length t) count)

-- ---- digits behind the backslash

abbrev got : Item → ℕ → Option Read
got item n = Some (item, n)

byte_read : (base count size code : ℕ) (digits r : List ℕ) → IsNumeral base count digits code → code < 256 → byte_escape base count size (digits ++ r) ≡ got (Byte code) size
unfolding byte_escape
byte_read base count size code digits r is small =
    ap (option_and_then (byte_of size)) (numeral_read base count code digits r is) ∙ ap (λ b. cond b (got (Byte code) size) None) (lt-ltb code 256 small)

character_read : (count size code : ℕ) (digits r : List ℕ) → IsNumeral 16 count digits code → IsScalar code → character_escape count size (digits ++ r) ≡ got (Character code) size
unfolding character_escape
character_read count size code digits r is scalar =
    ap (option_and_then (character_of size)) (numeral_read 16 count code digits r is) ∙ ap (λ b. cond b (got (Character code) size) None) scalar

and_then : (f : ℕ → Option Read) (o : Option ℕ) (item : Item) (n : ℕ) → option_and_then f o ≡ got item n → (v : ℕ) × (o ≡ Some v) × (f v ≡ got item n)
and_then f None item n h = cc
and_then f (Some v) item n h = (v, refl, h)

-- what such an escape stands for
record Numbered (base count size : ℕ) (t : List ℕ) (n code : ℕ) : Type 0 where
  pub size_is : n ≡ size
  pub room : count ≤ length t
  pub digits : IsNumeral base count (take count t) code

got_same : (i j : Item) (m n : ℕ) → got i m ≡ got j n → (i ≡ j) × (m ≡ n)
got_same i j m n h =
    let one : Read = (i, m) in
    let other : Read = (j, n) in
    let pair : one ≡ other = cc in
    (ap (λ x. x.0) pair, ap (λ x. x.1) pair)

byte_front : (base count size : ℕ) (t : List ℕ) (item : Item) (n : ℕ) → byte_escape base count size t ≡ got item n → (code : ℕ) × (Byte code ≡ item) × (code < 256) × Numbered base count size t n code
unfolding byte_escape
byte_front base count size t item n h =
    let p = and_then (byte_of size) (numeral_at base count t) item n h in
    let f = numeral_front base count p.0 t p.1 in
    ⊎_elim
    (λ small.
    let same = got_same (Byte p.0) item size n (sym (ap (λ b. cond b (got (Byte p.0) size) None) (lt-ltb p.0 256 small)) ∙ p.2) in
    (p.0, same.0, small, record { size_is = sym same.1; room = f.0; digits = f.1 }))
    (λ large. let bad : None ≡ got item n = sym (ap (λ b. cond b (got (Byte p.0) size) None) (le-ltb p.0 256 large)) ∙ p.2 in cc)
    (cases_lt p.0 256)

character_front : (count size : ℕ) (t : List ℕ) (item : Item) (n : ℕ) → character_escape count size t ≡ got item n → (code : ℕ) × (Character code ≡ item) × IsScalar code × Numbered 16 count size t n code
unfolding character_escape
character_front count size t item n h =
    let p = and_then (character_of size) (numeral_at 16 count t) item n h in
    let f = numeral_front 16 count p.0 t p.1 in
    ⊎_elim
    (λ scalar.
    let same = got_same (Character p.0) item size n (sym (ap (λ b. cond b (got (Character p.0) size) None) scalar) ∙ p.2) in
    (p.0, same.0, scalar, record { size_is = sym same.1; room = f.0; digits = f.1 }))
    (λ none. let bad : None ≡ got item n = sym (ap (λ b. cond b (got (Character p.0) size) None) none) ∙ p.2 in cc)
    (cases_Bool (scalar p.0))

-- ---- quotes

-- a byte that no escape of one letter has
abbrev pub is_special : ℕ → Bool
is_special c = c == 0 || (c == 120 || (c == 117 || (c == 85 || is_digit c 8)))

abbrev pub IsQuote : ℕ → Type 0
IsQuote quote = (c : ℕ) → is_special c ≡ true → escape_value quote c ≡ None

special_below : (c : ℕ) → is_special c ≡ true → c < 128
special_below c h = grind (arith, nat_tests, h)

from_is_none : (o : Option ℕ) → is_none o ≡ true → o ≡ None
from_is_none None h = refl
from_is_none (Some v) h = absurd (false≢true h)

quote_by : (quote : ℕ) → all_below (λ x. not (is_special x) || is_none (escape_value quote x)) 128 ≡ true → IsQuote quote
quote_by quote ok c special =
    from_is_none (escape_value quote c)
    (sym (ap (λ b. not b || is_none (escape_value quote c)) special)
    ∙ all_below-at (λ x. not (is_special x) || is_none (escape_value quote x)) 128 c ok (special_below c special))

pub double_quote : IsQuote 34
unfolding all_below
double_quote = quote_by 34 refl

pub single_quote : IsQuote 39
unfolding all_below
single_quote = quote_by 39 refl

-- ---- an escape is read as itself

pub record ReadAs (quote : ℕ) (bytes r : List ℕ) (code : ℕ) (value : List ℕ) : Type 0 where
  pub item : Item
  pub tail : List ℕ
  pub backslash : bytes ≡ 92 ∷ tail
  pub read : escape_at quote (tail ++ r) ≡ Some (item, length bytes)
  pub code_is : code_of item ≡ code
  pub value_is : bytes_of item ≡ value

read_letter : (quote c code : ℕ) (r : List ℕ) → escape_value quote c ≡ Some code → escape_at quote (c ∷ r) ≡ got (Byte code) 2
unfolding escape_at
read_letter quote c code r h = ap (letter_or (numbered_at (c ∷ r))) h

read_numbered : (quote c : ℕ) (t : List ℕ) (item : Item) (n : ℕ) → IsQuote quote → is_special c ≡ true → numbered_at (c ∷ t) ≡ got item n → escape_at quote (c ∷ t) ≡ got item n
unfolding escape_at
read_numbered quote c t item n plain special h = ap (letter_or (numbered_at (c ∷ t))) (plain c special) ∙ h

numbered_x : (t : List ℕ) → numbered_at (120 ∷ t) ≡ byte_escape 16 2 4 t
unfolding numbered_at
numbered_x t = refl

numbered_u : (t : List ℕ) → numbered_at (117 ∷ t) ≡ character_escape 4 6 t
unfolding numbered_at
numbered_u t = refl

numbered_U : (t : List ℕ) → numbered_at (85 ∷ t) ≡ character_escape 8 10 t
unfolding numbered_at
numbered_U t = refl

octal_not : (c d : ℕ) → is_digit c 8 ≡ true → is_digit d 8 ≡ false → (c == d) ≡ false
octal_not c d is other = ne_eqb c d (λ e. false≢true (sym other ∙ ap (λ x. is_digit x 8) (sym e) ∙ is))

numbered_octal : (c : ℕ) (t : List ℕ) → is_digit c 8 ≡ true → numbered_at (c ∷ t) ≡ byte_escape 8 3 4 (c ∷ t)
unfolding numbered_at
numbered_octal c t h =
    λ i. cond (octal_not c 120 h refl i) (byte_escape 16 2 4 t) (cond (octal_not c 117 h refl i) (character_escape 4 6 t) (cond (octal_not c 85 h refl i) (character_escape 8 10 t) (byte_escape 8 3 4 (c ∷ t))))

octal_special : (c : ℕ) → is_digit c 8 ≡ true → is_special c ≡ true
octal_special c h = grind (arith, nat_tests, h)

read_octal : (quote code : ℕ) (digits r : List ℕ) → IsQuote quote → IsNumeral 8 3 digits code → code < 256 → escape_at quote (digits ++ r) ≡ got (Byte code) 4
read_octal quote code [] r plain is small = absurd (let n = is.0 in omega arith)
read_octal quote code (c ∷ cs) r plain is small =
    let digit = (and_parts (is_digit c 8) (are_base 8 cs) is.1).0 in
    read_numbered quote c (cs ++ r) (Byte code) 4 plain (octal_special c digit) (numbered_octal c (cs ++ r) digit ∙ byte_read 8 3 4 code (c ∷ cs) r is small)

two_digits : (digits : List ℕ) (code : ℕ) → IsNumeral 16 2 digits code → code < 256
two_digits digits code is =
    let bound = digits_value-lt 16 digits (all_digits 16 digits is.1) in
    let places : 16 ^ length digits ≡ 256 = ap (λ k. 16 ^ k) is.0 in
    let v = is.2 in omega (arith, bound, places, v)

-- of so many bytes
sized : (bytes : List ℕ) (k : ℕ) (item : Item) (o : Option Read) → length bytes ≡ k → o ≡ got item k → o ≡ got item (length bytes)
sized bytes k item o size h = h ∙ ap (λ n. got item n) (sym size)

numeral_size : (base count code k : ℕ) (bytes front digits : List ℕ) → bytes ≡ front ++ digits → IsNumeral base count digits code → length front + count ≡ k → length bytes ≡ k
numeral_size base count code k bytes front digits e is sum = let n = is.0 in omega (arith, ap length e, length-append front digits, n, sum)

pub escape_read : (quote code : ℕ) (bytes value r : List ℕ) → IsQuote quote → IsEscape quote bytes code value → ReadAs quote bytes r code value
escape_read quote code bytes value r plain is =
    elim is [
      | letter c e h v ↦ record { item = Byte code; tail = c ∷ []; backslash = e; read = sized bytes 2 (Byte code) _ (ap length e) (read_letter quote c code r h); code_is = refl; value_is = sym v }
      | octal digits e n small v ↦ record {
        item = Byte code;
        tail = digits;
        backslash = e;
        read = sized bytes 4 (Byte code) _ (numeral_size 8 3 code 4 bytes (92 ∷ []) digits e n refl) (read_octal quote code digits r plain n (omega arith));
        code_is = refl;
        value_is = sym v;
      }
      | hex digits e n v ↦ record {
        item = Byte code;
        tail = 120 ∷ digits;
        backslash = e;
        read = sized bytes 4 (Byte code) _ (numeral_size 16 2 code 4 bytes (92 ∷ 120 ∷ []) digits e n refl)
            (read_numbered quote 120 (digits ++ r) (Byte code) 4 plain refl (numbered_x (digits ++ r) ∙ byte_read 16 2 4 code digits r n (two_digits digits code n)));
        code_is = refl;
        value_is = sym v;
      }
      | short digits e n scalar v ↦ record {
        item = Character code;
        tail = 117 ∷ digits;
        backslash = e;
        read = sized bytes 6 (Character code) _ (numeral_size 16 4 code 6 bytes (92 ∷ 117 ∷ []) digits e n refl)
            (read_numbered quote 117 (digits ++ r) (Character code) 6 plain refl (numbered_u (digits ++ r) ∙ character_read 4 6 code digits r n scalar));
        code_is = refl;
        value_is = sym v;
      }
      | long digits e n scalar v ↦ record {
        item = Character code;
        tail = 85 ∷ digits;
        backslash = e;
        read = sized bytes 10 (Character code) _ (numeral_size 16 8 code 10 bytes (92 ∷ 85 ∷ []) digits e n refl)
            (read_numbered quote 85 (digits ++ r) (Character code) 10 plain refl (numbered_U (digits ++ r) ∙ character_read 8 10 code digits r n scalar));
        code_is = refl;
        value_is = sym v;
      }
    ]

-- ---- what is read is an escape

-- the n bytes from a backslash on, behind which is t, are an escape that stands for the item
pub record EscapeFront (quote : ℕ) (t : List ℕ) (item : Item) (n : ℕ) : Type 0 where
  pub inner : ℕ
  pub size : n ≡ suc inner
  pub room : inner ≤ length t
  pub escape : IsEscape quote (92 ∷ take inner t) (code_of item) (bytes_of item)

pub head_is : (t : List ℕ) (b : ℕ) → get_or t 0 0 ≡ b → 0 < b → t ≡ b ∷ drop 1 t
head_is [] b e some = absurd (omega arith)
head_is (a ∷ t) b e some = ap (λ x. x ∷ t) e

letter_front : (quote v n : ℕ) (t : List ℕ) (item : Item) → IsQuote quote → escape_value quote (get_or t 0 0) ≡ Some v → got (Byte v) 2 ≡ got item n → EscapeFront quote t item n
letter_front quote v n [] item plain h e = let bad : None ≡ Some v = sym (plain 0 refl) ∙ h in cc
letter_front quote v n (c ∷ t) item plain h e =
    let same = got_same (Byte v) item 2 n e in
    record {
      inner = 1;
      size = sym same.1;
      room = omega arith;
      escape = subst (λ x. IsEscape quote (92 ∷ c ∷ []) (code_of x) (bytes_of x)) same.0 (letter c refl h refl);
    }

x_front : (quote n : ℕ) (t : List ℕ) (item : Item) → get_or t 0 0 ≡ 120 → byte_escape 16 2 4 (drop 1 t) ≡ got item n → EscapeFront quote t item n
x_front quote n t item first h =
    let p = byte_front 16 2 4 (drop 1 t) item n h in
    let is = head_is t 120 first (omega arith) in
    let f = p.3 in
    record {
      inner = 3;
      size = f.size_is;
      room = let r = f.room in omega (arith, r, ap length is);
      escape = subst (λ x. IsEscape quote (92 ∷ take 3 t) (code_of x) (bytes_of x)) p.1 (hex (take 2 (drop 1 t)) (ap (λ l. 92 ∷ take 3 l) is) f.digits refl);
    }

u_front : (quote n : ℕ) (t : List ℕ) (item : Item) → get_or t 0 0 ≡ 117 → character_escape 4 6 (drop 1 t) ≡ got item n → EscapeFront quote t item n
u_front quote n t item first h =
    let p = character_front 4 6 (drop 1 t) item n h in
    let is = head_is t 117 first (omega arith) in
    let f = p.3 in
    record {
      inner = 5;
      size = f.size_is;
      room = let r = f.room in omega (arith, r, ap length is);
      escape = subst (λ x. IsEscape quote (92 ∷ take 5 t) (code_of x) (bytes_of x)) p.1 (short (take 4 (drop 1 t)) (ap (λ l. 92 ∷ take 5 l) is) f.digits p.2 refl);
    }

U_front : (quote n : ℕ) (t : List ℕ) (item : Item) → get_or t 0 0 ≡ 85 → character_escape 8 10 (drop 1 t) ≡ got item n → EscapeFront quote t item n
U_front quote n t item first h =
    let p = character_front 8 10 (drop 1 t) item n h in
    let is = head_is t 85 first (omega arith) in
    let f = p.3 in
    record {
      inner = 9;
      size = f.size_is;
      room = let r = f.room in omega (arith, r, ap length is);
      escape = subst (λ x. IsEscape quote (92 ∷ take 9 t) (code_of x) (bytes_of x)) p.1 (long (take 8 (drop 1 t)) (ap (λ l. 92 ∷ take 9 l) is) f.digits p.2 refl);
    }

octal_front : (quote n : ℕ) (t : List ℕ) (item : Item) → byte_escape 8 3 4 t ≡ got item n → EscapeFront quote t item n
octal_front quote n t item h =
    let p = byte_front 8 3 4 t item n h in
    let f = p.3 in
    record {
      inner = 3;
      size = f.size_is;
      room = f.room;
      escape = subst (λ x. IsEscape quote (92 ∷ take 3 t) (code_of x) (bytes_of x)) p.1 (octal (take 3 t) refl f.digits (let s = p.2 in omega arith) refl);
    }

numbered_front : (quote n : ℕ) (t : List ℕ) (item : Item) → numbered_at t ≡ got item n → EscapeFront quote t item n
unfolding numbered_at
numbered_front quote n t item h =
    let c : ℕ = get_or t 0 0 in
    let x : Option Read = byte_escape 16 2 4 (drop 1 t) in
    let u : Option Read = character_escape 4 6 (drop 1 t) in
    let w : Option Read = character_escape 8 10 (drop 1 t) in
    let o : Option Read = byte_escape 8 3 4 t in
    ⊎_elim
    (λ yes. x_front quote n t item (eqb-true c 120 yes) (sym (ap (λ b. cond b x (cond (c == 117) u (cond (c == 85) w o))) yes) ∙ h))
    (λ no_x.
    let h1 : cond (c == 117) u (cond (c == 85) w o) ≡ got item n = sym (ap (λ b. cond b x (cond (c == 117) u (cond (c == 85) w o))) no_x) ∙ h in
    ⊎_elim
    (λ yes. u_front quote n t item (eqb-true c 117 yes) (sym (ap (λ b. cond b u (cond (c == 85) w o)) yes) ∙ h1))
    (λ no_u.
    let h2 : cond (c == 85) w o ≡ got item n = sym (ap (λ b. cond b u (cond (c == 85) w o)) no_u) ∙ h1 in
    ⊎_elim
    (λ yes. U_front quote n t item (eqb-true c 85 yes) (sym (ap (λ b. cond b w o) yes) ∙ h2))
    (λ no_w. octal_front quote n t item (sym (ap (λ b. cond b w o) no_w) ∙ h2))
    (cases_Bool (c == 85)))
    (cases_Bool (c == 117)))
    (cases_Bool (c == 120))

by_letter : (quote n : ℕ) (t : List ℕ) (item : Item) (o : Option ℕ) → IsQuote quote → escape_value quote (get_or t 0 0) ≡ o → letter_or (numbered_at t) o ≡ got item n → EscapeFront quote t item n
by_letter quote n t item None plain is h = numbered_front quote n t item h
by_letter quote n t item (Some v) plain is h = letter_front quote v n t item plain is h

pub escape_spelled : (quote n : ℕ) (t : List ℕ) (item : Item) → IsQuote quote → escape_at quote t ≡ Some (item, n) → EscapeFront quote t item n
unfolding escape_at
escape_spelled quote n t item plain h = by_letter quote n t item (escape_value quote (get_or t 0 0)) plain refl h

-- How far words go.
use Rattle.std.proofs.Common.{◌≡◌, ℕ, suc, ◌+◌, ◌-◌, ◌<◌, ◌≤◌, Bool, true, false, ◌&&◌, ◌||◌, ◌==◌, cond, List, [], ◌∷◌, ◌++◌, length, take, drop, get_or, sym, refl, ap, ◌∙◌, arith, add-zero, get_or-drop, subst, IsUtf8}
use Rattle.std.specs.Prelude.{not}
use Rattle.std.proofs.Math.Seq.{drop-cons}
use Rattle.std.proofs.lemmas.List.{append-nil, append_assoc}
use Rattle.std.specs.Str.{IsCharBoundary}
use Rattle.std.proofs.lemmas.List.Sums.{prefix_len-le-length, prefix_len_stops}
use Rattle.std.proofs.lemmas.Bool.{eqb-true}
use Rattle.std.proofs.lemmas.List.{length-drop, nil_from_length, drop-drop}
use Rattle.std.proofs.lemmas.Str.{IsUtf8-drop, IsCharBoundary-after_ascii}
use Rattle.gs_gomod.specs.Words.{Word, Plain, Quoted, Unclosed, is_blank, is_quote, begins_comment, words_from, between, in_plain, in_quotes}
use Rattle.gs_gomod.specs.Reading.{plain_size, quoted_size}

add-one : (n : ℕ) → n + 1 ≡ suc n
add-one n = omega arith

drop_at : (xs : List ℕ) (i : ℕ) → i < length xs → drop i xs ≡ get_or xs i 0 ∷ drop (i + 1) xs
drop_at xs i within = drop-cons xs i 0 within ∙ ap (λ n. get_or xs i 0 ∷ drop n xs) (sym (add-one i))

abbrev ends : ℕ → List ℕ → Bool
ends c cs = is_blank c || begins_comment c cs

-- the test that the code makes at a place
pub ends_at : (xs : List ℕ) (i next : ℕ) → next ≡ get_or xs (i + 1) 0 → (is_blank (get_or xs i 0) || (get_or xs i 0 == 47 && next == 47)) ≡ ends (get_or xs i 0) (drop (i + 1) xs)
ends_at xs i next is_next =
    let same : next ≡ get_or (drop (i + 1) xs) 0 0 = is_next ∙ sym (get_or-drop (i + 1) xs 0 0 ∙ ap (λ n. get_or xs n 0) (add-zero (i + 1))) in
    ap (λ n. is_blank (get_or xs i 0) || (get_or xs i 0 == 47 && n == 47)) same

pub plain_size-stop : (xs : List ℕ) (i : ℕ) → i < length xs → ends (get_or xs i 0) (drop (i + 1) xs) ≡ true → plain_size (drop i xs) ≡ 0
plain_size-stop xs i within h = ap plain_size (drop_at xs i within) ∙ ap (λ b. cond b 0 (suc (plain_size (drop (i + 1) xs)))) h

pub plain_size-more : (xs : List ℕ) (i : ℕ) → i < length xs → ends (get_or xs i 0) (drop (i + 1) xs) ≡ false → plain_size (drop i xs) ≡ suc (plain_size (drop (i + 1) xs))
plain_size-more xs i within h = ap plain_size (drop_at xs i within) ∙ ap (λ b. cond b 0 (suc (plain_size (drop (i + 1) xs)))) h

-- what follows a plain word whose bytes so far are w
abbrev Follows : List ℕ → List ℕ → ℕ → Type 0
Follows w bs n = words_from (in_plain w) bs ≡ Plain (w ++ take n bs) ∷ words_from between (drop n bs)

blank_follows : (w cs : List ℕ) (c : ℕ) → is_blank c ≡ true → Follows w (c ∷ cs) 0
blank_follows w cs c h =
    ap (λ b. cond b (Plain w ∷ words_from between cs) (cond (begins_comment c cs) (Plain w ∷ []) (words_from (in_plain (w ++ c ∷ [])) cs))) h
    ∙ ap (λ v. Plain v ∷ words_from between cs) (sym (append-nil w))
    ∙ sym (ap (λ b. Plain (w ++ []) ∷ cond b (words_from between cs) (cond (begins_comment c cs) [] (cond (is_quote c) (words_from (in_quotes c []) cs) (words_from (in_plain (c ∷ [])) cs)))) h)

comment_follows : (w cs : List ℕ) (c : ℕ) → is_blank c ≡ false → begins_comment c cs ≡ true → Follows w (c ∷ cs) 0
comment_follows w cs c h k =
    ap (λ b. cond b (Plain w ∷ words_from between cs) (cond (begins_comment c cs) (Plain w ∷ []) (words_from (in_plain (w ++ c ∷ [])) cs))) h
    ∙ ap (λ b. cond b (Plain w ∷ []) (words_from (in_plain (w ++ c ∷ [])) cs)) k
    ∙ ap (λ v. Plain v ∷ []) (sym (append-nil w))
    ∙ sym (ap (λ b. Plain (w ++ []) ∷ cond b (words_from between cs) (cond (begins_comment c cs) [] (cond (is_quote c) (words_from (in_quotes c []) cs) (words_from (in_plain (c ∷ [])) cs)))) h
    ∙ ap (λ b. Plain (w ++ []) ∷ cond b [] (cond (is_quote c) (words_from (in_quotes c []) cs) (words_from (in_plain (c ∷ [])) cs))) k)

more_follows : (w cs : List ℕ) (c n : ℕ) → is_blank c ≡ false → begins_comment c cs ≡ false → Follows (w ++ c ∷ []) cs n → Follows w (c ∷ cs) (suc n)
more_follows w cs c n h k f =
    ap (λ b. cond b (Plain w ∷ words_from between cs) (cond (begins_comment c cs) (Plain w ∷ []) (words_from (in_plain (w ++ c ∷ [])) cs))) h
    ∙ ap (λ b. cond b (Plain w ∷ []) (words_from (in_plain (w ++ c ∷ [])) cs)) k
    ∙ f
    ∙ ap (λ v. Plain v ∷ words_from between (drop n cs)) (append_assoc w (c ∷ []) (take n cs))

plain_case : (w cs : List ℕ) (c : ℕ) (a b : Bool) → is_blank c ≡ a → begins_comment c cs ≡ b → Follows (w ++ c ∷ []) cs (plain_size cs) → Follows w (c ∷ cs) (cond (a || b) 0 (suc (plain_size cs)))
plain_case w cs c true b h k f = blank_follows w cs c h
plain_case w cs c false true h k f = comment_follows w cs c h k
plain_case w cs c false false h k f = more_follows w cs c (plain_size cs) h k f

pub plain_follows : (w bs : List ℕ) → Follows w bs (plain_size bs)
plain_follows w [] = ap (λ v. Plain v ∷ []) (sym (append-nil w))
plain_follows w (c ∷ cs) = plain_case w cs c (is_blank c) (begins_comment c cs) refl refl (plain_follows (w ++ c ∷ []) cs)

-- a plain word at the front
pub plain_leads : (c : ℕ) (cs : List ℕ) → is_blank c ≡ false → begins_comment c cs ≡ false → is_quote c ≡ false →
    words_from between (c ∷ cs) ≡ Plain (take (plain_size (c ∷ cs)) (c ∷ cs)) ∷ words_from between (drop (plain_size (c ∷ cs)) (c ∷ cs))
plain_leads c cs h k q =
    let size : plain_size (c ∷ cs) ≡ suc (plain_size cs) = ap (λ b. cond (b || begins_comment c cs) 0 (suc (plain_size cs))) h ∙ ap (λ b. cond b 0 (suc (plain_size cs))) k in
    ap (λ b. cond b (words_from between cs) (cond (begins_comment c cs) [] (cond (is_quote c) (words_from (in_quotes c []) cs) (words_from (in_plain (c ∷ [])) cs)))) h
    ∙ ap (λ b. cond b [] (cond (is_quote c) (words_from (in_quotes c []) cs) (words_from (in_plain (c ∷ [])) cs))) k
    ∙ ap (λ b. cond b (words_from (in_quotes c []) cs) (words_from (in_plain (c ∷ [])) cs)) q
    ∙ plain_follows (c ∷ []) cs
    ∙ sym (ap (λ n. Plain (take n (c ∷ cs)) ∷ words_from between (drop n (c ∷ cs))) size)

-- a blank at the front
pub blank_leads : (c : ℕ) (cs : List ℕ) → is_blank c ≡ true → words_from between (c ∷ cs) ≡ words_from between cs
blank_leads c cs h = ap (λ b. cond b (words_from between cs) (cond (begins_comment c cs) [] (cond (is_quote c) (words_from (in_quotes c []) cs) (words_from (in_plain (c ∷ [])) cs)))) h

-- a comment at the front
pub comment_leads : (c : ℕ) (cs : List ℕ) → is_blank c ≡ false → begins_comment c cs ≡ true → words_from between (c ∷ cs) ≡ []
comment_leads c cs h k =
    ap (λ b. cond b (words_from between cs) (cond (begins_comment c cs) [] (cond (is_quote c) (words_from (in_quotes c []) cs) (words_from (in_plain (c ∷ [])) cs)))) h
    ∙ ap (λ b. cond b [] (cond (is_quote c) (words_from (in_quotes c []) cs) (words_from (in_plain (c ∷ [])) cs))) k

-- a quote at the front
pub quote_leads : (c : ℕ) (cs : List ℕ) → is_blank c ≡ false → begins_comment c cs ≡ false → is_quote c ≡ true → words_from between (c ∷ cs) ≡ words_from (in_quotes c []) cs
quote_leads c cs h k q =
    ap (λ b. cond b (words_from between cs) (cond (begins_comment c cs) [] (cond (is_quote c) (words_from (in_quotes c []) cs) (words_from (in_plain (c ∷ [])) cs)))) h
    ∙ ap (λ b. cond b [] (cond (is_quote c) (words_from (in_quotes c []) cs) (words_from (in_plain (c ∷ [])) cs))) k
    ∙ ap (λ b. cond b (words_from (in_quotes c []) cs) (words_from (in_plain (c ∷ [])) cs)) q

-- what follows a quote q, behind the bytes w: the word up to the next quote, or no word's end
abbrev FollowsQuote : ℕ → List ℕ → List ℕ → ℕ → Type 0
FollowsQuote q w bs n = (n < length bs → words_from (in_quotes q w) bs ≡ Quoted (w ++ take n bs) ∷ words_from between (drop (n + 1) bs)) × (n ≡ length bs → words_from (in_quotes q w) bs ≡ Unclosed ∷ [])

next : (n : ℕ) → suc (n + 1) ≡ 1 + n + 1
next n = omega arith

quote_case : (q : ℕ) (w cs : List ℕ) (c : ℕ) (b : Bool) → (c == q) ≡ b → FollowsQuote q (w ++ c ∷ []) cs (quoted_size q cs) → FollowsQuote q w (c ∷ cs) (cond (not b) (1 + quoted_size q cs) 0)
quote_case q w cs c true h f = (
  λ some. ap (λ b. cond b (Quoted w ∷ words_from between cs) (words_from (in_quotes q (w ++ c ∷ [])) cs)) h ∙ ap (λ v. Quoted v ∷ words_from between cs) (sym (append-nil w)),
  λ none. absurd (omega (arith, none)),
)
quote_case q w cs c false h f =
    let step = ap (λ b. cond b (Quoted w ∷ words_from between cs) (words_from (in_quotes q (w ++ c ∷ [])) cs)) h in
    let n = quoted_size q cs in
    let one : suc n ≡ 1 + n = omega arith in (
      λ some. step ∙ f.0 (omega (arith, some)) ∙ ap (λ v. Quoted v ∷ words_from between (drop (n + 1) cs)) (append_assoc w (c ∷ []) (take n cs))
          ∙ ap (λ m. Quoted (w ++ take m (c ∷ cs)) ∷ words_from between (drop (n + 1) cs)) one
          ∙ ap (λ m. Quoted (w ++ take (1 + n) (c ∷ cs)) ∷ words_from between (drop m (c ∷ cs))) (next n),
      λ none. step ∙ f.1 (omega (arith, none)),
    )

pub quote_follows : (q : ℕ) (w bs : List ℕ) → FollowsQuote q w bs (quoted_size q bs)
quote_follows q w [] = (λ some. absurd (omega (arith, some)), λ none. refl)
quote_follows q w (c ∷ cs) = quote_case q w cs c (c == q) refl (quote_follows q (w ++ c ∷ []) cs)

not_false : (b : Bool) → not b ≡ false → b ≡ true
not_false true h = refl
not_false false h = absurd (cc h)

quote_small : (q : ℕ) → is_quote q ≡ true → q < 128
quote_small q h = grind (arith, h)

pub quote_boundary : (q : ℕ) (bs : List ℕ) (n : ℕ) → is_quote q ≡ true → n ≡ quoted_size q bs → IsCharBoundary bs n
quote_boundary q bs n h e =
    let within = prefix_len-le-length (λ c. not (c == q)) bs in
    let small = quote_small q h in (
      omega (arith, within, e),
      λ some big. let at_quote : get_or bs (quoted_size q bs) 0 ≡ q = eqb-true (get_or bs (quoted_size q bs) 0) q (not_false (get_or bs (quoted_size q bs) 0 == q) (prefix_len_stops (λ c. not (c == q)) bs 0 (omega (arith, e, some)))) in
          let here : get_or bs n 0 ≡ q = ap (λ m. get_or bs m 0) e ∙ at_quote in
          absurd (omega (arith, big, here, small)),
    )

end_small : (c : ℕ) (cs : List ℕ) → ends c cs ≡ true → c < 128
end_small c cs h = grind (arith, h)

-- a plain word ends within the line, before a byte of ASCII or at the line's end
record Stops (bs : List ℕ) (n : ℕ) : Type 0 where
  within : n ≤ length bs
  small : n < length bs → get_or bs n 0 < 128

stop_case : (c : ℕ) (cs : List ℕ) (b : Bool) → ends c cs ≡ b → Stops cs (plain_size cs) → Stops (c ∷ cs) (cond b 0 (suc (plain_size cs)))
stop_case c cs true h s = record { within = omega arith; small = λ some. end_small c cs h }
stop_case c cs false h s = let within = s.within in record { within = omega arith; small = λ some. s.small (omega arith) }

plain_stops : (bs : List ℕ) → Stops bs (plain_size bs)
plain_stops [] = record { within = omega arith; small = λ some. absurd (omega arith) }
plain_stops (c ∷ cs) = stop_case c cs (ends c cs) refl (plain_stops cs)

pub plain_boundary : (bs : List ℕ) (n : ℕ) → n ≡ plain_size bs → IsCharBoundary bs n
plain_boundary bs n e =
    let s = plain_stops bs in
    let within = s.within in (
      omega (arith, within, e),
      λ some big. let small = s.small (omega (arith, e, some)) in
          let here : get_or bs n 0 ≡ get_or bs (plain_size bs) 0 = ap (λ m. get_or bs m 0) e in
          absurd (omega (arith, big, here, small)),
    )

-- the quote that closes a word
closes_at : (q : ℕ) (bs : List ℕ) (n : ℕ) → n ≡ quoted_size q bs → n < length bs → get_or bs n 0 ≡ q
closes_at q bs n e some =
    ap (λ m. get_or bs m 0) e
    ∙ eqb-true (get_or bs (quoted_size q bs) 0) q (not_false (get_or bs (quoted_size q bs) 0 == q) (prefix_len_stops (λ c. not (c == q)) bs 0 (omega (arith, e, some))))

some_left : (bs rest : List ℕ) (n : ℕ) → rest ≡ drop n bs → 0 < length rest → n < length bs
some_left bs rest n e some = let size : length rest ≡ length bs - n = ap length e ∙ length-drop n bs in omega (arith, size, some)

pub quote_next : (q : ℕ) (bs rest : List ℕ) (n : ℕ) → is_quote q ≡ true → IsUtf8 bs → n ≡ quoted_size q bs → rest ≡ drop n bs → 0 < length rest → IsCharBoundary rest 1
quote_next q bs rest n h utf8 e k some =
    let text : IsUtf8 rest = subst IsUtf8 (sym k) (IsUtf8-drop bs n utf8 (quote_boundary q bs n h e)) in
    let first : get_or rest 0 0 ≡ q = ap (λ l. get_or l 0 0) k ∙ get_or-drop n bs 0 0 ∙ ap (λ m. get_or bs m 0) (add-zero n) ∙ closes_at q bs n e (some_left bs rest n k some) in
    let small = quote_small q h in
    IsCharBoundary-after_ascii rest 0 text some (omega (arith, first, small))

pub quoted_closed : (q : ℕ) (bs word rest left : List ℕ) (n : ℕ) → n ≡ quoted_size q bs → word ≡ take n bs → rest ≡ drop n bs → 0 < length rest → left ≡ drop 1 rest →
    words_from (in_quotes q []) bs ≡ Quoted word ∷ words_from between left
quoted_closed q bs word rest left n e w k some l =
    (quote_follows q [] bs).0 (let some_bs = some_left bs rest n k some in omega (arith, e, some_bs))
    ∙ ap (λ m. Quoted (take m bs) ∷ words_from between (drop (m + 1) bs)) (sym e)
    ∙ ap (λ v. Quoted v ∷ words_from between (drop (n + 1) bs)) (sym w)
    ∙ ap (λ v. Quoted word ∷ words_from between v) (sym (drop-drop 1 n bs) ∙ ap (drop 1) (sym k) ∙ sym l)

pub quoted_open : (q : ℕ) (bs rest : List ℕ) (n : ℕ) → n ≡ quoted_size q bs → rest ≡ drop n bs → length rest ≡ 0 →
    words_from (in_quotes q []) bs ≡ Unclosed ∷ words_from between rest
quoted_open q bs rest n e k none =
    let within = prefix_len-le-length (λ c. not (c == q)) bs in
    let size : length rest ≡ length bs - n = ap length k ∙ length-drop n bs in
    (quote_follows q [] bs).1 (omega (arith, e, size, none, within))
    ∙ ap (λ l. Unclosed ∷ words_from between l) (sym (nil_from_length rest none))

-- behind a first byte of ASCII
pub first_boundary : (bs after : List ℕ) (c : ℕ) → IsUtf8 bs → bs ≡ c ∷ after → c < 128 → IsCharBoundary bs 1
first_boundary bs after c utf8 e small =
    let first : get_or bs 0 0 ≡ c = ap (λ l. get_or l 0 0) e in
    let size : length bs ≡ suc (length after) = ap length e in
    IsCharBoundary-after_ascii bs 0 utf8 (omega (arith, size)) (omega (arith, first, small))

pub blank_small : (c : ℕ) → is_blank c ≡ true → c < 128
blank_small c h = grind (arith, h)

pub small_quote : (q : ℕ) → is_quote q ≡ true → q < 128
small_quote q h = quote_small q h

pub plain_front : (bs after word left : List ℕ) (c n : ℕ) → bs ≡ c ∷ after → is_blank c ≡ false → begins_comment c after ≡ false → is_quote c ≡ false →
    n ≡ plain_size bs → word ≡ take n bs → left ≡ drop n bs → words_from between bs ≡ Plain word ∷ words_from between left
plain_front bs after word left c n e h k q size w l =
    ap (words_from between) e ∙ plain_leads c after h k q
    ∙ ap (λ b. Plain (take (plain_size b) b) ∷ words_from between (drop (plain_size b) b)) (sym e)
    ∙ ap (λ m. Plain (take m bs) ∷ words_from between (drop m bs)) (sym size)
    ∙ ap (λ v. Plain v ∷ words_from between (drop n bs)) (sym w)
    ∙ ap (λ v. Plain word ∷ words_from between v) (sym l)

-- Raw strings.
use Rattle.std.proofs.Common.{◌≡◌, ℕ, suc, ◌+◌, ◌<◌, ◌≤◌, not, ◌==◌, List, [], ◌∷◌, ◌++◌, length, take, drop, get_or, filter, sym, ap, ◌∙◌, subst, ⊎_elim, arith, append_assoc, take-append-drop, length-take-le, length-append}
use Rattle.std.specs.Prelude.{◌≢◌, All}
use Rattle.std.specs.List.{prefix_len}
use Rattle.std.proofs.Math.Seq.{take-append_seam, take-length, get_or-append_seam}
use Rattle.std.proofs.lemmas.Bool.{cases_lt}
use Rattle.std.proofs.lemmas.List.{take_more}
use Rattle.std.proofs.lemmas.List.Sums.{prefix_len-le-length}
use Rattle.gs_syntax.specs.Quotes.{IsRawText, IsOpenRawText}
use Rattle.gs_scan.specs.Reading.{IsOnlyFront}
use Rattle.gs_scan.proofs.EscapeLemmas.{head_is}
use Rattle.gs_scan.proofs.UntilLemmas.{until, until_stops, until_le, until_passes, until_all}

-- what a raw string at the front has inside is as long as the bytes up to the next back quote
raw_size : (text t : List ℕ) (m : ℕ) (other : List ℕ) → text ≡ 96 ∷ t → m ≤ length text → IsRawText (take m text) other
    → (inside : List ℕ) × (take (length inside) t ≡ inside) × (length inside ≡ prefix_len (until 96) t) × (m ≡ length inside + 2) × (other ≡ filter (λ c. not (c == 13)) inside)
raw_size text t m other is within raw =
    let x : List ℕ = raw.0 in
    let whole : t ≡ x ++ 96 ∷ drop m text =
    ap (drop 1) (sym is ∙ sym (take-append-drop m text) ∙ ap (λ l. l ++ drop m text) raw.1) ∙ append_assoc x (96 ∷ []) (drop m text) in
    let front : take (length x) t ≡ x = ap (take (length x)) whole ∙ take-append_seam x (96 ∷ drop m text) in
    let here : get_or t (length x) 0 ≡ 96 = ap (λ l. get_or l (length x) 0) whole ∙ get_or-append_seam x 96 (drop m text) 0 in
    let room : length x ≤ length t = omega (arith, ap length whole, length-append x (96 ∷ drop m text)) in
    let le = until_le 96 t (length x) room (subst (All (λ c. c ≢ 96)) (sym front) raw.2) in
    let ge : prefix_len (until 96) t ≤ length x = ⊎_elim (λ less. absurd (until_passes 96 t (length x) less here)) (λ more. more) (cases_lt (length x) (prefix_len (until 96) t)) in
    let size : length x ≡ prefix_len (until 96) t = omega arith in
    let long : m ≡ length x + 2 = omega (arith, ap length raw.1, length-append x (96 ∷ []), length-take-le m text within) in
    (x, front, size, long, raw.3)

pub raw_front : (text inside bytes value : List ℕ) (n : ℕ) → get_or text 0 0 ≡ 96 → inside ≡ drop 1 text → n ≡ prefix_len (until 96) inside → (n ≡ length inside → ⊥)
    → bytes ≡ take n inside → value ≡ filter (λ c. not (c == 13)) bytes → IsOnlyFront IsRawText text value (n + 2)
raw_front text inside bytes value n first is_inside size short front is_value =
    let t : List ℕ = drop 1 text in
    let is : text ≡ 96 ∷ t = head_is text 96 first (omega arith) in
    let k : n ≡ prefix_len (until 96) t = size ∙ ap (prefix_len (until 96)) is_inside in
    let le = prefix_len-le-length (until 96) t in
    let less : n < length t = ⊎_elim (λ l. l) (λ more. absurd (short (omega (arith, ap length is_inside, k, le)))) (cases_lt n (length t)) in
    let here : get_or t n 0 ≡ 96 = ap (λ i. get_or t i 0) k ∙ until_stops 96 t (omega (arith, k)) in
    let inner : bytes ≡ take n t = front ∙ ap (take n) is_inside in
    let two : n + 2 ≡ suc (n + 1) = omega arith in
    let whole : take (n + 2) text ≡ 96 ∷ (bytes ++ 96 ∷ []) =
    (λ i. take (two i) (is i)) ∙ ap (λ l. 96 ∷ l) (take_more t n 0 less ∙ (λ i. sym inner i ++ (here i ∷ []))) in
    let all : All (λ c. c ≢ 96) bytes = subst (All (λ c. c ≢ 96)) (sym (inner ∙ ap (λ i. take i t) k)) (until_all 96 t) in
    record {
      some = omega arith;
      within = omega (arith, ap length is, less);
      is = (bytes, whole, all, is_value);
      only = λ m other within raw.
          let p = raw_size text t m other is within raw in
          let same : p.0 ≡ bytes = sym p.1 ∙ ap (λ i. take i t) (p.2 ∙ sym k) ∙ sym inner in
          (omega (arith, p.3, p.2, k), p.4 ∙ ap (filter (λ c. not (c == 13))) same ∙ sym is_value);
    }

pub raw_open : (text inside : List ℕ) (n : ℕ) → get_or text 0 0 ≡ 96 → inside ≡ drop 1 text → n ≡ prefix_len (until 96) inside → n ≡ length inside → IsOpenRawText text
raw_open text inside n first is_inside size whole =
    let all : All (λ c. c ≢ 96) inside = subst (All (λ c. c ≢ 96)) (ap (λ i. take i inside) (sym size ∙ whole) ∙ take-length inside) (until_all 96 inside) in
    (inside, head_is text 96 first (omega arith) ∙ ap (λ l. 96 ∷ l) (sym is_inside), all)

-- where nothing closes it, no front is a raw string
pub no_raw : (text : List ℕ) (m : ℕ) (other : List ℕ) → IsOpenRawText text → m ≤ length text → IsRawText (take m text) other → ⊥
no_raw text m other unended within raw =
    let t : List ℕ = unended.0 in
    let p = raw_size text t m other unended.1 within raw in
    let le = until_le 96 t (length t) (omega arith) (subst (All (λ c. c ≢ 96)) (sym (take-length t)) unended.2) in
    omega (arith, p.3, p.2, le, ap length unended.1)

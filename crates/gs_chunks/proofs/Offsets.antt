-- Where tokens and comments stand.
use Rattle.std.proofs.Common.{◌≡◌, ℕ, ◌+◌, ◌-◌, ◌<◌, ◌≤◌, ◌==◌, Bool, true, false, cond, ◌&&◌, List, [], ◌∷◌, ◌++◌, length, take, drop, map, nat_eq, arith, refl, sym, ap, ◌∙◌, subst, length-drop, take-append-drop, append_assoc, ◌||◌, Option, Some, None}
use Rattle.std.specs.List.{starts_with}
use Rattle.std.proofs.lemmas.Bool.{and_parts, eqb-true}
use Rattle.std.proofs.lemmas.List.{drop-drop, drop_all, map-append}
use Rattle.gs_syntax.specs.declared.token.Token.{Token}
use Rattle.gs_syntax.specs.declared.token.TokenKind.{TokenKind}
use Rattle.gs_syntax.specs.Chunks.{Follow, chunks_of}
use Rattle.gs_syntax.specs.Kinds.{ends_line}
use Rattle.gs_syntax.specs.Spelling.{Lexeme, Blank, LineEnd, Token as ATokenOf}
use Rattle.gs_syntax.specs.Tokens.{Cut, IsCutInto, semicolon, end_after, tokens_from, mark_size, AreTokens}
use Rattle.gs_scan.specs.Comments.{AreComments, Ascends, comments_from, is_line_comment}
use Rattle.gs_chunks.specs.Docs.{begins_declaration, begins_spec, open_after, starts, starts_from}
use Rattle.gs_chunks.specs.Files.{starts_of}
use Rattle.gs_chunks.specs.Verdicts.{Verdict, Kept, Dropped, part_of, parts_of}
use Rattle.gs_chunks.specs.Walks.{AreSlashed}
use Rattle.gs_chunks.proofs.Fewness.{some_at, within_at}
use Rattle.gs_chunks.proofs.Texts.{mark_within}

-- ---- Comments begin with `//`

slashed : (text : List ℕ) → starts_with nat_eq text (47 ∷ 47 ∷ []) ≡ true → (rest : List ℕ) × (text ≡ 47 ∷ 47 ∷ rest)
slashed [] h = absurd (cc)
slashed (a ∷ []) h =
    let short = (and_parts (47 == a) false h).1 in
    absurd (cc)
slashed (a ∷ b ∷ rest) h =
    let first = and_parts (47 == a) (47 == b && true) h in
    let second = and_parts (47 == b) true first.1 in
    let x = eqb-true 47 a first.0 in
    let y = eqb-true 47 b second.0 in
    (rest, sym (λ i. x i ∷ y i ∷ rest))

comment_slashed : (text : List ℕ) (what : Lexeme) → is_line_comment text what ≡ true → (rest : List ℕ) × (text ≡ 47 ∷ 47 ∷ rest)
comment_slashed text Blank h = slashed text h
comment_slashed text LineEnd h = absurd (cc)
comment_slashed text (ATokenOf k) h = absurd (cc)

slashed_first : (text : List ℕ) (at : ℕ) (rest : List ℕ) (here : Bool) (more : List ℕ) → drop at text ≡ rest → (here ≡ true → (said : List ℕ) × (rest ≡ 47 ∷ 47 ∷ said)) → AreSlashed text more →
    AreSlashed text (cond here (at ∷ []) [] ++ more)
slashed_first text at rest true more e h s = let found = h refl in ((found.0, e ∙ found.1), s)
slashed_first text at rest false more e h s = s

slashed_from : (text : List ℕ) (at : ℕ) (rest : List ℕ) (cs : List Cut) → drop at text ≡ rest → AreSlashed text (comments_from at rest cs)
slashed_from text at rest [] e = tt
slashed_from text at rest (c ∷ cs) e =
    slashed_first text at rest (is_line_comment rest c.0) (comments_from (at + c.1) (drop c.1 rest) cs) e (comment_slashed rest c.0)
    (slashed_from text (at + c.1) (drop c.1 rest) cs (sym (drop-drop c.1 at text) ∙ ap (drop c.1) e))

pub comments_slashed : (text : List ℕ) (comments : List ℕ) → AreComments text comments → AreSlashed text comments
comments_slashed text comments (cs, cut, e) = subst (AreSlashed text) (sym e) (slashed_from text (mark_size text) (drop (mark_size text) text) cs refl)

-- ---- The offsets of tokens ascend

abbrev pub offsets : List Token → List ℕ
offsets ts = map (λ t. t.span.offset) ts

-- no offset is below `from`: a semicolon that waits stands at one, or what comes next does
abbrev Waits : ℕ → ℕ → Option ℕ → Type 0
Waits from at None = from ≤ at
Waits from at (Some e) = (from ≤ e) × (e ≤ at)

waits_for : (from at : ℕ) (end : Option ℕ) → Waits from at end → from ≤ at
waits_for from at None h = h
waits_for from at (Some e) h =
    let low = h.0 in
    let high = h.1 in
    omega arith

waits_on : (from at n : ℕ) (end : Option ℕ) → Waits from at end → Waits from (at + n) end
waits_on from at n None h = omega arith
waits_on from at n (Some e) h =
    let high = h.1 in
    (h.0, omega arith)

waits_after : (ends : Bool) (at n : ℕ) → 0 < n → Waits (at + 1) (at + n) (cond ends (Some (at + n)) None)
waits_after true at n h = (omega arith, omega arith)
waits_after false at n h = omega arith

-- the semicolon that waits, and what ascends behind it
semicolon_first : (from at next to : ℕ) (end : Option ℕ) (more : List Token) → Waits from at end → at < next → at < to → ((low : ℕ) → low ≤ next → Ascends low to (offsets more)) → Ascends from to (offsets (semicolon end ++ more))
semicolon_first from at next to None more h on within up = up from (omega arith)
semicolon_first from at next to (Some e) more h on within up =
    let low = h.0 in
    let high = h.1 in
    (low, omega arith, up (e + 1) (omega arith))

last_semicolon : (from at to : ℕ) (end : Option ℕ) → Waits from at end → at < to → Ascends from to (offsets (semicolon end))
last_semicolon from at to None h within = tt
last_semicolon from at to (Some e) h within =
    let low = h.0 in
    let high = h.1 in
    (low, omega arith, tt)

tokens_ascend : (cs : List Cut) (text : List ℕ) (at : ℕ) (end : Option ℕ) (from to : ℕ) → IsCutInto text cs → Waits from at end → at + length text < to → Ascends from to (offsets (tokens_from at end cs))
tokens_ascend [] text at end from to h w within = last_semicolon from at to end w (omega arith)
tokens_ascend ((Blank, n) ∷ cs) text at end from to h w within =
    let size = length-drop n text in
    let fits = within_at text Blank n h.0 in
    tokens_ascend cs (drop n text) (at + n) end from to h.1 (waits_on from at n end w) (omega arith)
tokens_ascend ((LineEnd, n) ∷ cs) text at end from to h w within =
    let size = length-drop n text in
    let some = some_at text LineEnd n h.0 in
    let fits = within_at text LineEnd n h.0 in
    semicolon_first from at (at + n) to end (tokens_from (at + n) None cs) w (omega arith) (omega arith) (λ low less. tokens_ascend cs (drop n text) (at + n) None low to h.1 less (omega arith))
tokens_ascend ((ATokenOf k, n) ∷ cs) text at end from to h w within =
    let size = length-drop n text in
    let some = some_at text (ATokenOf k) n h.0 in
    let fits = within_at text (ATokenOf k) n h.0 in
    (waits_for from at end w, omega arith, tokens_ascend cs (drop n text) (at + n) (end_after k (at + n)) (at + 1) to h.1 (waits_after (ends_line k) at n some) (omega arith))

mark_fits : (text : List ℕ) → mark_size text + length (drop (mark_size text) text) < length text + 1
mark_fits text = omega (arith, mark_within text, length-drop (mark_size text) text)

text_ascends : (text : List ℕ) (tokens : List Token) → AreTokens text tokens → Ascends (mark_size text) (length text + 1) (offsets tokens)
text_ascends text tokens (cs, cut, e) =
    subst (λ ts. Ascends (mark_size text) (length text + 1) (offsets ts)) (sym e)
    (tokens_ascend cs (drop (mark_size text) text) (mark_size text) None (mark_size text) (length text + 1) cut (omega arith) (mark_fits text))

-- ---- Starts are some of the offsets

-- whatever these ascend between, those do
abbrev Thins : ℕ → List ℕ → List ℕ → Type 0
Thins to some all = (from : ℕ) → Ascends from to all → Ascends from to some

from_before : (from before to : ℕ) (ns : List ℕ) → before ≤ from → Ascends from to ns → Ascends before to ns
from_before from before to [] h up = tt
from_before from before to (n ∷ ns) h up =
    let first = up.0 in
    (omega arith, up.1, up.2)

thin_one : (to : ℕ) (here : Bool) (n : ℕ) (some all : List ℕ) → Thins to some all → Thins to (cond here (n ∷ []) [] ++ some) (n ∷ all)
thin_one to true n some all h from up = (up.0, up.1, h (n + 1) up.2)
thin_one to false n some all h from up =
    let first = up.0 in
    from_before (n + 1) from to some (omega arith) (h (n + 1) up.2)

thin_starts_from : (to : ℕ) (before : TokenKind) (opened : List Bool) (ts : List Token) (some all : List ℕ) → Thins to some all → Thins to (starts_from before opened ts ++ some) (offsets ts ++ all)
thin_starts_from to before opened [] some all h = h
thin_starts_from to before opened (t ∷ ts) some all h =
    subst (λ l. Thins to l (offsets (t ∷ ts) ++ all)) (sym (append_assoc (cond (begins_declaration before t.kind || begins_spec before opened t.kind) (t.span.offset ∷ []) []) (starts_from t.kind (open_after before opened t.kind) ts) some))
    (
    thin_one to (begins_declaration before t.kind || begins_spec before opened t.kind) t.span.offset (starts_from t.kind (open_after before opened t.kind) ts ++ some) (offsets ts ++ all)
    (thin_starts_from to t.kind (open_after before opened t.kind) ts some all h)
    )

thin_starts : (to : ℕ) (ts : List Token) (some all : List ℕ) → Thins to some all → Thins to (starts ts ++ some) (offsets ts ++ all)
thin_starts to [] some all h = h
thin_starts to (t ∷ ts) some all h = thin_one to true t.span.offset (starts_from t.kind [] ts ++ some) (offsets ts ++ all) (thin_starts_from to t.kind [] ts some all h)

thin_dropped : (to : ℕ) (ts : List Token) (some all : List ℕ) → Thins to some all → Thins to some (offsets ts ++ all)
thin_dropped to [] some all h = h
thin_dropped to (t ∷ ts) some all h = thin_one to false t.span.offset some (offsets ts ++ all) (thin_dropped to ts some all h)

-- the offsets of the tokens of all the chunks
abbrev all_offsets : List (List Token) → List ℕ
all_offsets [] = []
all_offsets (ts ∷ parts) = offsets ts ++ all_offsets parts

thin_kept : (to : ℕ) (parts : List (List Token)) (vs : List Verdict) → Thins to (starts_of parts vs) (all_offsets parts)
thin_kept to [] vs = λ from up. tt
thin_kept to (ts ∷ parts) [] = λ from up. tt
thin_kept to (ts ∷ parts) (Kept t ∷ vs) = thin_starts to ts (starts_of parts vs) (all_offsets parts) (thin_kept to parts vs)
thin_kept to (ts ∷ parts) (Dropped faults ∷ vs) = thin_dropped to ts (starts_of parts vs) (all_offsets parts) (thin_kept to parts vs)

-- the chunks are all the tokens
follow_all : (tokens : List Token) (from : ℕ) (places : List (ℕ × ℕ)) → Follow from (length tokens) places → all_offsets (parts_of tokens places) ≡ offsets (drop from tokens)
follow_all tokens from [] h = sym (ap offsets (drop_all from tokens (omega (arith, h))))
follow_all tokens from (p ∷ ps) h =
    let first = h.0 in
    let more = h.1 in
    let end : p.0 + (p.1 - p.0) ≡ p.1 = omega arith in
    let rest : offsets (drop p.1 tokens) ≡ offsets (drop (p.1 - p.0) (drop p.0 tokens)) = ap offsets (sym (drop-drop (p.1 - p.0) p.0 tokens ∙ ap (λ k. drop k tokens) end)) in
    ap (λ l. offsets (part_of tokens p) ++ l) (follow_all tokens p.1 ps h.2 ∙ rest)
    ∙ sym (map-append (λ t. t.span.offset) (take (p.1 - p.0) (drop p.0 tokens)) (drop (p.1 - p.0) (drop p.0 tokens)))
    ∙ ap offsets (take-append-drop (p.1 - p.0) (drop p.0 tokens))
    ∙ ap (λ k. offsets (drop k tokens)) h.0

pub starts_ascend : (text : List ℕ) (tokens : List Token) (vs : List Verdict) → AreTokens text tokens → Follow 0 (length tokens) (chunks_of tokens) →
    Ascends (mark_size text) (length text + 1) (starts_of (parts_of tokens (chunks_of tokens)) vs)
starts_ascend text tokens vs are follow =
    thin_kept (length text + 1) (parts_of tokens (chunks_of tokens)) vs (mark_size text)
    (subst (Ascends (mark_size text) (length text + 1)) (sym (follow_all tokens 0 (chunks_of tokens) follow)) (text_ascends text tokens are))

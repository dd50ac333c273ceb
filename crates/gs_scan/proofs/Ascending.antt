-- The offsets of comments ascend.
use Rattle.std.proofs.Common.{◌≡◌, ℕ, ◌+◌, ◌≤◌, ◌<◌, Bool, true, false, cond, List, [], ◌∷◌, ◌++◌, length, drop, sym, subst, ⊎_elim, arith, length-drop}
use Rattle.gs_syntax.specs.Spelling.{Lexeme, StandsAt}
use Rattle.gs_syntax.specs.Tokens.{Cut, IsCutInto, mark_size}
use Rattle.gs_scan.specs.Comments.{AreComments, Ascends, is_line_comment, comments_from}
use Rattle.gs_scan.proofs.ByteMarkLemmas.{mark_within}

-- what ascends from a place on ascends from an earlier one on
from_before : (from before to : ℕ) (ns : List ℕ) → before ≤ from → Ascends from to ns → Ascends before to ns
from_before from before to [] h up = tt
from_before from before to (n ∷ ns) h up = let first = up.0 in (omega (arith, h, first), up.1, up.2)

-- what stands at the front has bytes, and no more than the text
stands_within : (text : List ℕ) (what : Lexeme) (n : ℕ) → StandsAt text what n → (0 < n) × (n ≤ length text)
stands_within text what n s = ⊎_elim (λ p. (p.some, p.within)) (λ p. (p.some, p.within)) s

-- a place ahead of numbers that ascend from a later one
one_more : (b : Bool) (at next to : ℕ) (ns : List ℕ) → at < next → at < to → Ascends next to ns → Ascends at to (cond b (at ∷ []) [] ++ ns)
one_more true at next to ns before within up = (omega arith, within, from_before next (at + 1) to ns (omega arith) up)
one_more false at next to ns before within up = from_before next at to ns (omega arith) up

from_ascends : (at : ℕ) (text : List ℕ) (cs : List Cut) → IsCutInto text cs → Ascends at (at + length text) (comments_from at text cs)
from_ascends at text [] h = tt
from_ascends at text (c ∷ cs) h =
    let bounds = stands_within text c.0 c.1 h.0 in
    let some = bounds.0 in
    let within = bounds.1 in
    let same : (at + c.1) + length (drop c.1 text) ≡ at + length text = let e = length-drop c.1 text in omega arith in
    let later = from_ascends (at + c.1) (drop c.1 text) cs h.1 in
    one_more (is_line_comment text c.0) at (at + c.1) (at + length text) (comments_from (at + c.1) (drop c.1 text) cs)
    (omega arith) (omega arith) (subst (λ to. Ascends (at + c.1) to (comments_from (at + c.1) (drop c.1 text) cs)) same later)

pub comments_ascend : (text : List ℕ) (offsets : List ℕ) → AreComments text offsets → Ascends 0 (length text) offsets
comments_ascend text offsets h =
    let front = mark_size text in
    let rest = drop front text in
    let up = from_ascends front rest h.0 h.1 in
    let whole : front + length rest ≡ length text = let e = length-drop front text in let within = mark_within text in omega arith in
    subst (Ascends 0 (length text)) (sym h.2) (from_before front 0 (length text) (comments_from front rest h.0) (omega arith)
    (subst (λ to. Ascends front to (comments_from front rest h.0)) whole up))

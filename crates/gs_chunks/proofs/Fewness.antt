-- A text has at most one token more than bytes.
use Rattle.std.proofs.Common.{ℕ, ◌+◌, ◌<◌, ◌≤◌, List, [], ◌∷◌, length, drop, arith, ap, Option, Some, None, length-append, length-drop, inl, inr}
use Rattle.gs_syntax.specs.declared.token.Token.{Token}
use Rattle.gs_syntax.specs.Spelling.{Lexeme, Blank, LineEnd, Token as ATokenOf, StandsAt}
use Rattle.gs_syntax.specs.Tokens.{Cut, IsCutInto, semicolon, end_after, tokens_from, mark_size, AreTokens}

pub some_at : (text : List ℕ) (what : Lexeme) (n : ℕ) → StandsAt text what n → 0 < n
some_at text what n (inl h) = h.some
some_at text what n (inr h) = h.some

pub within_at : (text : List ℕ) (what : Lexeme) (n : ℕ) → StandsAt text what n → n ≤ length text
within_at text what n (inl h) = h.within
within_at text what n (inr h) = h.within

one_semicolon : (end : Option ℕ) → length (semicolon end) ≤ 1
one_semicolon None = omega arith
one_semicolon (Some e) = omega arith

few : (cs : List Cut) (text : List ℕ) (at : ℕ) (end : Option ℕ) → IsCutInto text cs → length (tokens_from at end cs) ≤ length text + 1
few [] text at end h = omega (arith, one_semicolon end)
few ((Blank, n) ∷ cs) text at end h =
    omega (arith, some_at text Blank n h.0, within_at text Blank n h.0, length-drop n text, few cs (drop n text) (at + n) end h.1)
few ((LineEnd, n) ∷ cs) text at end h =
    omega (
      arith,
      some_at text LineEnd n h.0,
      within_at text LineEnd n h.0,
      length-drop n text,
      few cs (drop n text) (at + n) None h.1,
      one_semicolon end,
      length-append (semicolon end) (tokens_from (at + n) None cs),
    )
few ((ATokenOf k, n) ∷ cs) text at end h =
    omega (arith, some_at text (ATokenOf k) n h.0, within_at text (ATokenOf k) n h.0, length-drop n text, few cs (drop n text) (at + n) (end_after k (at + n)) h.1)

pub few_tokens : (text : List ℕ) (tokens : List Token) → AreTokens text tokens → length tokens ≤ length text + 1
few_tokens text tokens h =
    let size = mark_size text in
    omega (arith, ap length h.2, few h.0 (drop size text) size None h.1, length-drop size text)

-- How the tokens and the comments grow at a step.
use Rattle.std.proofs.Common.{◌≡◌, ℕ, ◌+◌, false, ◌==◌, List, [], ◌∷◌, ◌++◌, cond, drop, get_or, sym, ap, refl, ◌∙◌, subst, ⊎_elim, append_assoc, append-nil, nat_eq}
use Rattle.std.specs.List.{starts_with}
use Rattle.std.specs.Prelude.{Option, None}
use Rattle.std.proofs.lemmas.Bool.{and_parts, cases_Bool, eqb-true}
use Rattle.gs_syntax.specs.declared.token.Token.{Token as AToken}
use Rattle.gs_syntax.specs.declared.token.TokenKind.{TokenKind}
use Rattle.gs_syntax.specs.Spelling.{Lexeme, Blank, Token, LineEnd, StandsAt}
use Rattle.gs_syntax.specs.Tokens.{Cut, end_after, semicolon, tokens_from}
use Rattle.gs_scan.specs.declared.class.Class.TheVariants as class
use Rattle.gs_scan.specs.declared.scan.Scanned.{Scanned}
use Rattle.gs_scan.specs.Comments.{is_line_comment, comments_from}
use Rattle.gs_scan.specs.Reading.{class_of}
use Rattle.gs_scan.specs.Steps.{Adds, AddsToken, comment_at}

-- a token that is added behind the others stands there, wherever a semicolon waits
pub token_adds : (rest : List ℕ) (at n m : ℕ) (k : TokenKind) (old new : List AToken) (after : Option ℕ) → m ≡ n → StandsAt rest (Token k) n
    → new ≡ old ++ record { kind = k; span = record { offset = at; length = n } } ∷ [] → after ≡ end_after k (at + n) → AddsToken rest at old new after m
token_adds rest at n m k old new after e stands added ends =
    let token : AToken = record { kind = k; span = record { offset = at; length = n } } in
    subst (AddsToken rest at old new after) (sym e) (
      k,
      stands,
      λ end cs. sym (append_assoc old (token ∷ []) (tokens_from (at + n) (end_after k (at + n)) cs))
          ∙ (λ i. (sym added i) ++ tokens_from (at + n) (sym ends i) cs),
    )

-- a token is no comment
pub token_step : (rest : List ℕ) (at : ℕ) (end : Option ℕ) (old new : Scanned) (after : Option ℕ) (n : ℕ) → new.comments.items ≡ old.comments.items
    → AddsToken rest at old.tokens.items new.tokens.items after n → Adds rest at end old new after n
token_step rest at end old new after n same adds = (Token adds.0, adds.1, adds.2 end, same ∙ sym (append-nil old.comments.items))

-- a space begins no comment
no_comment : (text : List ℕ) → class_of (get_or text 0 0) ≡ class.Space → is_line_comment text Blank ≡ false
no_comment [] space = refl
no_comment (b ∷ text) space =
    ⊎_elim
    (λ begins. absurd (let e : class_of 47 ≡ class.Space = ap class_of (eqb-true 47 b (and_parts (47 == b) (starts_with nat_eq text (47 ∷ [])) begins).0) ∙ space in cc))
    (λ other. other)
    (cases_Bool (starts_with nat_eq (b ∷ text) (47 ∷ 47 ∷ [])))

-- a space adds nothing
pub space_step : (rest : List ℕ) (at : ℕ) (end : Option ℕ) (found : Scanned) → StandsAt rest Blank 1 → class_of (get_or rest 0 0) ≡ class.Space → Adds rest at end found found end 1
space_step rest at end found stands space = (
  Blank,
  stands,
  λ cs. refl,
  sym (ap (λ b. found.comments.items ++ cond b (at ∷ []) []) (no_comment rest space) ∙ append-nil found.comments.items),
)

-- the end of a line adds the semicolon that waits
pub line_step : (rest : List ℕ) (at : ℕ) (end : Option ℕ) (old new : Scanned) → StandsAt rest LineEnd 1 → new.comments.items ≡ old.comments.items
    → new.tokens.items ≡ old.tokens.items ++ semicolon end → Adds rest at end old new None 1
line_step rest at end old new stands same added = (
  LineEnd,
  stands,
  λ cs. sym (append_assoc old.tokens.items (semicolon end) (tokens_from (at + 1) None cs)) ∙ ap (λ l. l ++ tokens_from (at + 1) None cs) (sym added),
  same ∙ sym (append-nil old.comments.items),
)

-- what is left of a text has the comments behind the first one
pub comments_grow : (at n : ℕ) (rest left : List ℕ) (what : Lexeme) (cs : List Cut) (old new : List ℕ) → new ≡ old ++ comment_at at rest what → left ≡ drop n rest
    → old ++ comments_from at rest ((what, n) ∷ cs) ≡ new ++ comments_from (at + n) left cs
comments_grow at n rest left what cs old new grown same =
    sym (append_assoc old (comment_at at rest what) (comments_from (at + n) (drop n rest) cs))
    ∙ (λ i. (sym grown i) ++ comments_from (at + n) (sym same i) cs)

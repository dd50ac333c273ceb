-- A text is cut in at most one way.
use Rattle.std.proofs.Common.{◌≡◌, ℕ, ◌≤◌, List, [], ◌∷◌, ◌++◌, length, take, drop, sym, refl, ap, ◌∙◌, subst, ⊎_elim, arith, take-append-drop, length-take-le}
use Rattle.std.specs.Prelude.{encode_utf8, None}
use Rattle.std.proofs.lemmas.Str.{encode_same}
use Rattle.gs_syntax.specs.declared.token.Token.{Token}
use Rattle.gs_syntax.specs.Spelling.{Lexeme, IsLongest, IsStray, StandsAt}
use Rattle.gs_syntax.specs.Tokens.{Cut, IsCutInto, AreTokens, mark_size, tokens_from}

abbrev Same : (what other : Lexeme) (n m : ℕ) → Type 0
Same what other n m = (what ≡ other) × (n ≡ m)

longest_same : (text : List ℕ) (what other : Lexeme) (n m : ℕ) → IsLongest text what n → IsLongest text other m → Same what other n m
longest_same text what other n m p q =
    ⊎_elim
    (λ shorter. ⊎_elim (λ longer. absurd (omega arith)) (λ same. (same.1, same.0)) (q.longest n what p.within p.spells))
    (λ same. (sym same.1, sym same.0))
    (p.longest m other q.within q.spells)

-- two characters at the front are one
char_same : (text : List ℕ) (n m c d : ℕ) → n ≤ length text → m ≤ length text → take n text ≡ encode_utf8 c → take m text ≡ encode_utf8 d → n ≡ m
char_same text n m c d n_within m_within is_c is_d =
    let both = sym (ap (λ l. l ++ drop n text) is_c) ∙ take-append-drop n text ∙ sym (take-append-drop m text) ∙ ap (λ l. l ++ drop m text) is_d in
    let c_is_d = (encode_same c d (drop n text) (drop m text) both).0 in
    sym (length-take-le n text n_within) ∙ ap length (is_c ∙ ap encode_utf8 c_is_d ∙ sym is_d) ∙ length-take-le m text m_within

stray_same : (text : List ℕ) (what other : Lexeme) (n m : ℕ) → IsStray text what n → IsStray text other m → Same what other n m
stray_same text what other n m p q =
    (p.bad ∙ sym q.bad, char_same text n m p.character.0 q.character.0 p.within q.within p.character.1 q.character.1)

stands_same : (text : List ℕ) (what other : Lexeme) (n m : ℕ) → StandsAt text what n → StandsAt text other m → Same what other n m
stands_same text what other n m s t =
    ⊎_elim
    (λ p. ⊎_elim (longest_same text what other n m p) (λ q. absurd (q.nothing n what p.within p.spells)) t)
    (λ p. ⊎_elim (λ q. absurd (p.nothing m other q.within q.spells)) (stray_same text what other n m p) t)
    s

nothing_at_end : (what : Lexeme) (n : ℕ) → StandsAt [] what n → ⊥
nothing_at_end what n s = ⊎_elim (λ p. let some = p.some in let within = p.within in omega arith) (λ p. let some = p.some in let within = p.within in omega arith) s

pub cut_same : (text : List ℕ) (cs ds : List Cut) → IsCutInto text cs → IsCutInto text ds → cs ≡ ds
cut_same text [] [] h k = refl
cut_same text [] (d ∷ ds) h k = absurd (nothing_at_end d.0 d.1 (subst (λ t. StandsAt t d.0 d.1) h k.0))
cut_same text (c ∷ cs) [] h k = absurd (nothing_at_end c.0 c.1 (subst (λ t. StandsAt t c.0 c.1) k h.0))
cut_same text (c ∷ cs) (d ∷ ds) h k =
    let same = stands_same text c.0 d.0 c.1 d.1 h.0 k.0 in
    let head : c ≡ d = λ i. (same.0 i, same.1 i) in
    let tail = cut_same (drop c.1 text) cs ds h.1 (subst (λ n. IsCutInto (drop n text) ds) (sym same.1) k.1) in
    λ i. head i ∷ tail i

pub tokens_same : (text : List ℕ) (ts us : List Token) → AreTokens text ts → AreTokens text us → ts ≡ us
tokens_same text ts us h k =
    h.2 ∙ ap (tokens_from (mark_size text) None) (cut_same (drop (mark_size text) text) h.0 k.0 h.1 k.1) ∙ sym k.2

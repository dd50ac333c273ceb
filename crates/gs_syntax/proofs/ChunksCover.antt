-- The chunks of a list of tokens are all of it, one directly behind the other.
use Rattle.std.proofs.Common.{◌≡◌, ℕ, ◌+◌, ◌<◌, ◌≤◌, Bool, true, false, ◌&&◌, ◌==◌, cond, List, [], ◌∷◌, length, sym, refl, ap, ◌∙◌, subst, ⊎_elim, arith, zero-add}
use Rattle.std.proofs.lemmas.Bool.{false≢true, cases_Bool, eqb-true, cases_lt}
use Rattle.std.proofs.lemmas.Bool.Decides.{nat_tests}
use Rattle.gs_syntax.specs.declared.token.Token.{Token}
use Rattle.gs_syntax.specs.Chunks.{is_semicolon, depth_after, chunks_from, chunks_of, Follow}

same_test : (a b : ℕ) → a ≡ b → (a == b) ≡ true
same_test a b e = grind (arith, nat_tests, e)

last_follows : (first at : ℕ) (b : Bool) → first ≤ at → (first == at) ≡ b → Follow first (at + 0) (cond b [] ((first, at) ∷ []))
last_follows first at true le same = let e = eqb-true first at same in omega arith
last_follows first at false le other =
    let less : first < at = ⊎_elim (λ l. l) (λ m. absurd (let e : first ≡ at = omega arith in false≢true (sym other ∙ same_test first at e))) (cases_lt first at) in
    (refl, less, omega arith)

from_follows : (first at depth : ℕ) (ts : List Token) → first ≤ at → Follow first (at + length ts) (chunks_from first at depth ts)
from_follows first at depth [] le = last_follows first at (first == at) le refl
from_follows first at depth (t ∷ ts) le =
    let end : (at + 1) + length ts ≡ at + length (t ∷ ts) = omega arith in
    ⊎_elim
    (λ cut. subst (Follow first (at + length (t ∷ ts))) (sym (ap (λ b. cond b ((first, at + 1) ∷ chunks_from (at + 1) (at + 1) 0 ts) (chunks_from first (at + 1) (depth_after depth t.kind) ts)) cut))
    (refl, omega arith, subst (λ n. Follow (at + 1) n (chunks_from (at + 1) (at + 1) 0 ts)) end (from_follows (at + 1) (at + 1) 0 ts (omega arith))))
    (λ none. subst (Follow first (at + length (t ∷ ts))) (sym (ap (λ b. cond b ((first, at + 1) ∷ chunks_from (at + 1) (at + 1) 0 ts) (chunks_from first (at + 1) (depth_after depth t.kind) ts)) none))
    (subst (λ n. Follow first n (chunks_from first (at + 1) (depth_after depth t.kind) ts)) end (from_follows first (at + 1) (depth_after depth t.kind) ts (omega arith))))
    (cases_Bool (is_semicolon t.kind && depth == 0))

pub chunks_follow : (ts : List Token) → Follow 0 (length ts) (chunks_of ts)
chunks_follow ts = subst (λ n. Follow 0 n (chunks_of ts)) (zero-add (length ts)) (from_follows 0 0 0 ts (omega arith))

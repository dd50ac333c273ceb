-- A simple statement is a definition where the form of definitions reads it.
use Rattle.std.proofs.Common.{◌≡◌, Bool, true, false, not, ◌&&◌, List, refl, ap, Option, Some, None, is_none}
use Rattle.gs_syntax.specs.declared.token.Token.{Token}
use Rattle.gs_syntax.specs.declared.token.Operator.TheVariants as mark
use Rattle.gs_grammar.specs.declared.trees.Simple.{Simple}
use Rattle.gs_grammar.specs.Front.{◌>>=◌, ◌>>◌, first, mark_at, front_at, is_goes_on, is_step, is_update}
use Rattle.gs_grammar.specs.Parts.{Found, found, is_define}
use Rattle.gs_grammar.specs.Steps.{exprs_step, expr_step}
use Rattle.gs_grammar.specs.Reference.{read_assign, read_define, read_expression, read_send, read_step, read_update, simple_step, read_a_post}
use Rattle.gs_grammar.proofs.Common.{bind, guard, either, from_some}
use Rattle.gs_places.specs.Places.{stands}
use Rattle.gs_places.proofs.Chains.{bind-same, guard-two}

abbrev Plain : Found Simple → Type 0
Plain f = is_define f.tree ≡ false

plain-assign : (s : List Token) (x : Token) (f : Found Simple) → read_assign s stands true x ≡ Some f → is_define f.tree ≡ false
unfolding read_assign
plain-assign s x f c = bind Plain (exprs_step s stands true x) _ (λ a e1 b1 c1. bind Plain (mark_at mark.Assign a.rest) _ (λ p e2 b2 c2. bind Plain ((stands p.1).exprs true) _ (λ u e3 b3 c3. from_some Plain c3 refl) b2 c2) b1 c1) f c

define-define : (s : List Token) (x : Token) (f : Found Simple) → read_define s stands true x ≡ Some f → is_define f.tree ≡ true
unfolding read_define
define-define s x f c = let Q : Found Simple → Type 0 = λ z. is_define z.tree ≡ true in
    bind Q (exprs_step s stands true x) _ (λ a e1 b1 c1. bind Q (mark_at mark.Define a.rest) _ (λ p e2 b2 c2. bind Q ((stands p.1).exprs true) _ (λ u e3 b3 c3. from_some Q c3 refl) b2 c2) b1 c1) f c

plain-expression : (s : List Token) (x : Token) (f : Found Simple) → read_expression s stands true x ≡ Some f → is_define f.tree ≡ false
unfolding read_expression
plain-expression s x f c = bind Plain (expr_step s stands 5 true false x) _ (λ a e1 b1 c1. guard Plain (is_none (front_at is_goes_on a.rest)) _ (λ e2 b2 c2. from_some Plain c2 refl) b1 c1) f c

plain-send : (s : List Token) (x : Token) (f : Found Simple) → read_send s stands true x ≡ Some f → is_define f.tree ≡ false
unfolding read_send
plain-send s x f c = bind Plain (expr_step s stands 5 true false x) _ (λ a e1 b1 c1. bind Plain (mark_at mark.Arrow a.rest) _ (λ p e2 b2 c2. bind Plain ((stands p.1).expr 5 true false) _ (λ u e3 b3 c3. from_some Plain c3 refl) b2 c2) b1 c1) f c

plain-step : (s : List Token) (x : Token) (f : Found Simple) → read_step s stands true x ≡ Some f → is_define f.tree ≡ false
unfolding read_step
plain-step s x f c = bind Plain (expr_step s stands 5 true false x) _ (λ a e1 b1 c1. bind Plain (front_at is_step a.rest) _ (λ p e2 b2 c2. from_some Plain c2 refl) b1 c1) f c

plain-update : (s : List Token) (x : Token) (f : Found Simple) → read_update s stands true x ≡ Some f → is_define f.tree ≡ false
unfolding read_update
plain-update s x f c = bind Plain (expr_step s stands 5 true false x) _ (λ a e1 b1 c1. bind Plain (front_at is_update a.rest) _ (λ p e2 b2 c2. bind Plain ((stands p.1).expr 5 true false) _ (λ u e3 b3 c3. from_some Plain c3 refl) b2 c2) b1 c1) f c

choose : {A : Type 0} (P : A → Bool) (a b c : Option A) → ((f : A) → a ≡ Some f → P f ≡ false) → ((f : A) → b ≡ Some f → P f ≡ true) → ((f : A) → c ≡ Some f → P f ≡ false) → (f : A) → first a (first b c) ≡ Some f → P f ≡ (is_none a && not (is_none b))
choose P (Some a) b c h i j f e = h f e
choose P None (Some b) c h i j f e = i f e
choose P None None c h i j f e = j f e

defines : (s : List Token) (x : Token) (f : Found Simple) → simple_step s stands true x ≡ Some f → is_define f.tree ≡ (is_none (read_assign s stands true x) && not (is_none (read_define s stands true x)))
unfolding simple_step
defines s x f c = choose (λ z. is_define z.tree) (read_assign s stands true x) (read_define s stands true x) _ (plain-assign s x) (define-define s x) (λ b e. either Plain _ _ (plain-expression s x) (λ b2 e2. either Plain _ _ (plain-send s x) (λ b3 e3. either Plain _ _ (plain-step s x) (plain-update s x) b3 e3) b2 e2) b e) f c

-- a post statement is a simple statement that the form of definitions doesn't read
pub post_law : (x : Token) (s : List Token) → read_a_post s stands x ≡ (simple_step s stands true x >>= λ i. not (is_none (read_assign s stands true x) && not (is_none (read_define s stands true x))) >> Some (found i.tree i.rest i.depth))
unfolding read_a_post
post_law x s = bind-same (simple_step s stands true x) (λ i e. guard-two _ _ (ap not (defines s x i e)) refl)

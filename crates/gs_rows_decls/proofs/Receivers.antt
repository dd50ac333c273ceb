-- Parameters are a receiver where one stands alone, with at most one name.
use Rattle.std.proofs.Common.{◌≡◌, max, Bool, true, false, not, ◌&&◌, List, [], ◌∷◌, refl, sym, ap, ◌∙◌, Option, Some, None, is_none}
use Rattle.gs_syntax.specs.declared.token.Span.{Span}
use Rattle.gs_syntax.specs.declared.token.Token.{Token}
use Rattle.gs_syntax.specs.declared.token.Operator.{Operator}
use Rattle.gs_syntax.specs.declared.token.Operator.TheVariants as mark
use Rattle.gs_syntax.specs.declared.token.Keyword.TheVariants as word
use Rattle.gs_grammar.specs.declared.trees.TypeExpr.{TypeExpr}
use Rattle.gs_grammar.specs.declared.trees.Parameter.{Parameter}
use Rattle.gs_grammar.specs.declared.trees.Parameter.TheVariants as pa
use Rattle.gs_grammar.specs.declared.trees.Parameters.{Parameters}
use Rattle.gs_grammar.specs.declared.trees.Top.TheVariants as tp
use Rattle.gs_grammar.specs.Front.{◌>>=◌, ◌>>◌, first, mark_at, word_at, name_at, trail_at}
use Rattle.gs_grammar.specs.Parts.{Found, found, is_single, is_receiver}
use Rattle.gs_grammar.specs.Steps.{idents_step, type_step, read_last_type, read_more_types, read_last_dots, unnamed_step, read_last_named_dots, read_last_named, read_more_named, named_params_step, read_no_params, read_named_list, read_unnamed_list, params_step}
use Rattle.gs_grammar.specs.Reference.{read_method_decl}
use Rattle.gs_grammar.proofs.Common.{bind, guard, either, from_some, some_is_none, if-some}
use Rattle.gs_places.specs.Places.{stands}
use Rattle.gs_places.proofs.Chains.{bind-same, guard-two}
use Rattle.gs_places.proofs.Laws.{at_unnamed, end_unnamed, at_named_params, end_named_params, at_params, end_params}
use Rattle.gs_rows_types.proofs.Singles.{single_names}
use Rattle.gs_rows_decls.specs.Receivers.{is_only_at, receives}

-- whether a list of parameters is that of a receiver
abbrev alone : List Parameter → Bool
alone ps = is_receiver (record { left = record { offset = 0; length = 0 }; list = ps; right = record { offset = 0; length = 0 } })

data IsMany : List Parameter → Type 0 where
  many : {p : Parameter} {ps : List Parameter} → IsMany (p ∷ ps)

abbrev Many : Found (List Parameter) → Type 0
Many f = IsMany f.tree

alone-more : (p : Parameter) (ps : List Parameter) → IsMany ps → alone (p ∷ ps) ≡ false
alone-more (pa.Plain t) _ many = refl
alone-more (pa.Variadic q t) _ many = refl
alone-more (pa.Named [] t) _ many = refl
alone-more (pa.Named (x ∷ []) t) _ many = refl
alone-more (pa.Named (x ∷ y ∷ xs) t) _ many = refl
alone-more (pa.NamedVariadic xs q t) _ many = refl

alone-named : (xs : List Token) (t : TypeExpr) → alone (pa.Named xs t ∷ []) ≡ is_single xs
alone-named [] t = refl
alone-named (x ∷ []) t = refl
alone-named (x ∷ y ∷ xs) t = refl

choose : {A : Type 0} (P : A → Bool) (a b : Option A) (k : Bool) → ((f : A) → a ≡ Some f → P f ≡ k) → ((f : A) → b ≡ Some f → P f ≡ false) → (f : A) → first a b ≡ Some f → P f ≡ (not (is_none a) && k)
choose P (Some a) b k h i f e = h f e
choose P None b k h i f e = i f e

-- ---- lists of parameters are not empty

many-last-type : (s : List Token) (x : Token) (f : Found (List Parameter)) → read_last_type s stands false x ≡ Some f → IsMany f.tree
unfolding read_last_type
many-last-type s x f c = bind Many (type_step s stands x) _ (λ t e1 b1 c1. bind Many (trail_at mark.RightParen t.rest) _ (λ z e2 b2 c2. from_some Many c2 many) b1 c1) f c

many-more-types : (s : List Token) (x : Token) (f : Found (List Parameter)) → read_more_types s stands false x ≡ Some f → IsMany f.tree
unfolding read_more_types
many-more-types s x f c = bind Many (type_step s stands x) _ (λ t e1 b1 c1. bind Many (mark_at mark.Comma t.rest) _ (λ z e2 b2 c2. guard Many (is_none (mark_at mark.RightParen z.1)) _ (λ e3 b3 c3. bind Many ((stands z.1).unnamed false) _ (λ ps e4 b4 c4. from_some Many c4 many) b3 c3) b2 c2) b1 c1) f c

no-last-dots : (s : List Token) (x : Token) (f : Found (List Parameter)) → read_last_dots s stands false x ≡ Some f → ⊥
unfolding read_last_dots
no-last-dots s x f c = let Q : Found (List Parameter) → Type 0 = λ z. ⊥ in bind Q (mark_at mark.Ellipsis (x ∷ s)) _ (λ p e1 b1 c1. some_is_none c1) f c

many-unnamed : (s : List Token) (x : Token) (f : Found (List Parameter)) → unnamed_step s stands false x ≡ Some f → IsMany f.tree
unfolding unnamed_step
many-unnamed s x f c = either Many _ _ (many-last-type s x) (λ b e. either Many _ _ (many-more-types s x) (λ b2 e2. absurd (no-last-dots s x b2 e2)) b e) f c

stand-unnamed : (s : List Token) (f : Found (List Parameter)) → (stands s).unnamed false ≡ Some f → IsMany f.tree
stand-unnamed [] f c = absurd (some_is_none (sym (end_unnamed false) ∙ c))
stand-unnamed (x ∷ s) f c = many-unnamed s x f (sym (at_unnamed false x s) ∙ c)

no-named-dots : (s : List Token) (x : Token) (f : Found (List Parameter)) → read_last_named_dots s stands false x ≡ Some f → ⊥
unfolding read_last_named_dots
no-named-dots s x f c = let Q : Found (List Parameter) → Type 0 = λ z. ⊥ in bind Q (idents_step s stands x) _ (λ xs e1 b1 c1. bind Q (mark_at mark.Ellipsis xs.rest) _ (λ p e2 b2 c2. guard Q (is_single xs.tree) _ (λ e3 b3 c3. some_is_none c3) b2 c2) b1 c1) f c

many-last-named : (s : List Token) (x : Token) (f : Found (List Parameter)) → read_last_named s stands false x ≡ Some f → IsMany f.tree
unfolding read_last_named
many-last-named s x f c = bind Many (idents_step s stands x) _ (λ xs e1 b1 c1. guard Many (is_none (mark_at mark.Ellipsis xs.rest)) _ (λ e2 b2 c2. bind Many ((stands xs.rest).type) _ (λ t e3 b3 c3. bind Many (trail_at mark.RightParen t.rest) _ (λ z e4 b4 c4. from_some Many c4 many) b3 c3) b2 c2) b1 c1) f c

many-more-named : (s : List Token) (x : Token) (f : Found (List Parameter)) → read_more_named s stands false x ≡ Some f → IsMany f.tree
unfolding read_more_named
many-more-named s x f c = bind Many (idents_step s stands x) _ (λ xs e1 b1 c1. guard Many (is_none (mark_at mark.Ellipsis xs.rest)) _ (λ e2 b2 c2. bind Many ((stands xs.rest).type) _ (λ t e3 b3 c3. bind Many (mark_at mark.Comma t.rest) _ (λ z e4 b4 c4. guard Many (is_none (mark_at mark.RightParen z.1)) _ (λ e5 b5 c5. bind Many ((stands z.1).named_params false) _ (λ ps e6 b6 c6. from_some Many c6 many) b5 c5) b4 c4) b3 c3) b2 c2) b1 c1) f c

many-named : (s : List Token) (x : Token) (f : Found (List Parameter)) → named_params_step s stands false x ≡ Some f → IsMany f.tree
unfolding named_params_step
many-named s x f c = either Many _ _ (λ b e. absurd (no-named-dots s x b e)) (λ b e. either Many _ _ (many-last-named s x) (many-more-named s x) b e) f c

stand-named : (s : List Token) (f : Found (List Parameter)) → (stands s).named_params false ≡ Some f → IsMany f.tree
stand-named [] f c = absurd (some_is_none (sym (end_named_params false) ∙ c))
stand-named (x ∷ s) f c = many-named s x f (sym (at_named_params false x s) ∙ c)

-- ---- which of them are those of a receiver

last-type-alone : (s : List Token) (x : Token) (f : Found (List Parameter)) → read_last_type s stands false x ≡ Some f → alone f.tree ≡ true
unfolding read_last_type
last-type-alone s x f c = let Q : Found (List Parameter) → Type 0 = λ z. alone z.tree ≡ true in bind Q (type_step s stands x) _ (λ t e1 b1 c1. bind Q (trail_at mark.RightParen t.rest) _ (λ z e2 b2 c2. from_some Q c2 refl) b1 c1) f c

more-types-alone : (s : List Token) (x : Token) (f : Found (List Parameter)) → read_more_types s stands false x ≡ Some f → alone f.tree ≡ false
unfolding read_more_types
more-types-alone s x f c = let Q : Found (List Parameter) → Type 0 = λ z. alone z.tree ≡ false in bind Q (type_step s stands x) _ (λ t e1 b1 c1. bind Q (mark_at mark.Comma t.rest) _ (λ z e2 b2 c2. guard Q (is_none (mark_at mark.RightParen z.1)) _ (λ e3 b3 c3. bind Q ((stands z.1).unnamed false) _ (λ ps e4 b4 c4. from_some Q c4 (alone-more (pa.Plain t.tree) ps.tree (stand-unnamed z.1 ps e4))) b3 c3) b2 c2) b1 c1) f c

last-named-alone : (s : List Token) (x : Token) (f : Found (List Parameter)) → read_last_named s stands false x ≡ Some f → alone f.tree ≡ is_none (mark_at mark.Comma s)
unfolding read_last_named
last-named-alone s x f c = let Q : Found (List Parameter) → Type 0 = λ z. alone z.tree ≡ is_none (mark_at mark.Comma s) in bind Q (idents_step s stands x) _ (λ xs e1 b1 c1. guard Q (is_none (mark_at mark.Ellipsis xs.rest)) _ (λ e2 b2 c2. bind Q ((stands xs.rest).type) _ (λ t e3 b3 c3. bind Q (trail_at mark.RightParen t.rest) _ (λ z e4 b4 c4. from_some Q c4 (alone-named xs.tree t.tree ∙ single_names s x xs e1)) b3 c3) b2 c2) b1 c1) f c

more-named-alone : (s : List Token) (x : Token) (f : Found (List Parameter)) → read_more_named s stands false x ≡ Some f → alone f.tree ≡ false
unfolding read_more_named
more-named-alone s x f c = let Q : Found (List Parameter) → Type 0 = λ z. alone z.tree ≡ false in bind Q (idents_step s stands x) _ (λ xs e1 b1 c1. guard Q (is_none (mark_at mark.Ellipsis xs.rest)) _ (λ e2 b2 c2. bind Q ((stands xs.rest).type) _ (λ t e3 b3 c3. bind Q (mark_at mark.Comma t.rest) _ (λ z e4 b4 c4. guard Q (is_none (mark_at mark.RightParen z.1)) _ (λ e5 b5 c5. bind Q ((stands z.1).named_params false) _ (λ ps e6 b6 c6. from_some Q c6 (alone-more (pa.Named xs.tree t.tree) ps.tree (stand-named z.1 ps e6))) b5 c5) b4 c4) b3 c3) b2 c2) b1 c1) f c

and-true : (b : Bool) → (b && true) ≡ b
and-true true = refl
and-true false = refl

unnamed-alone : (s : List Token) (x : Token) (f : Found (List Parameter)) → unnamed_step s stands false x ≡ Some f → alone f.tree ≡ not (is_none (read_last_type s stands false x))
unfolding unnamed_step
unnamed-alone s x f c = choose (λ z. alone z.tree) (read_last_type s stands false x) _ true (last-type-alone s x) (λ b e. let Q : Found (List Parameter) → Type 0 = λ z. alone z.tree ≡ false in either Q _ _ (more-types-alone s x) (λ b2 e2. absurd (no-last-dots s x b2 e2)) b e) f c ∙ and-true _

named-alone : (s : List Token) (x : Token) (f : Found (List Parameter)) → named_params_step s stands false x ≡ Some f → alone f.tree ≡ (not (is_none (read_last_named s stands false x)) && is_none (mark_at mark.Comma s))
unfolding named_params_step
named-alone s x f c = let Q : Found (List Parameter) → Type 0 = λ z. alone z.tree ≡ (not (is_none (read_last_named s stands false x)) && is_none (mark_at mark.Comma s)) in
    either Q _ _ (λ b e. absurd (no-named-dots s x b e)) (λ b e. choose (λ z. alone z.tree) (read_last_named s stands false x) (read_more_named s stands false x) (is_none (mark_at mark.Comma s)) (last-named-alone s x) (more-named-alone s x) b e) f c

-- ---- the parameters of a place

is-some-of : {A : Type 0} (o : Option A) {a : A} → o ≡ Some a → is_none o ≡ false
is-some-of o e = rw e refl

only-closed : (s : List Token) (q : Span × List Token) → mark_at mark.RightParen s ≡ Some q → is_only_at s ≡ false
only-closed [] q e = refl
only-closed (y ∷ r) q e = rw (is-some-of (mark_at mark.RightParen (y ∷ r)) e) refl

only-named : (s : List Token) (ps : Found (List Parameter)) → is_none (mark_at mark.RightParen s) ≡ true → (stands s).named_params false ≡ Some ps → alone ps.tree ≡ is_only_at s
only-named [] ps e c = absurd (some_is_none (sym (end_named_params false) ∙ c))
only-named (y ∷ r) ps e c = rw (e, is-some-of ((stands (y ∷ r)).named_params false) c) (named-alone r y ps (sym (at_named_params false y r) ∙ c))

only-unnamed : (s : List Token) (ps : Found (List Parameter)) → is_none (mark_at mark.RightParen s) ≡ true → is_none ((stands s).named_params false) ≡ true → (stands s).unnamed false ≡ Some ps → alone ps.tree ≡ is_only_at s
only-unnamed [] ps e n c = absurd (some_is_none (sym (end_unnamed false) ∙ c))
only-unnamed (y ∷ r) ps e n c = rw (e, n) (unnamed-alone r y ps (sym (at_unnamed false y r) ∙ c))

mark-rest : (o : Operator) (x : Token) (s : List Token) (q : Span × List Token) → mark_at o (x ∷ s) ≡ Some q → q.1 ≡ s
unfolding mark_at
mark-rest o x s q e = let h = if-some _ e in sym (ap (λ z. z.1) h.1)

abbrev Receives : List Token → Found Parameters → Type 0
Receives s f = is_receiver f.tree ≡ is_only_at s

no-params-receive : (s : List Token) (x : Token) (f : Found Parameters) → read_no_params s stands false x ≡ Some f → is_receiver f.tree ≡ is_only_at s
unfolding read_no_params
no-params-receive s x f c = let Q = Receives s in bind Q (mark_at mark.LeftParen (x ∷ s)) _ (λ p e1 b1 c1. bind Q (mark_at mark.RightParen p.1) _ (λ q e2 b2 c2. from_some Q c2 (sym (only-closed s q (ap (mark_at mark.RightParen) (sym (mark-rest mark.LeftParen x s p e1)) ∙ e2)))) b1 c1) f c

named-list-receive : (s : List Token) (x : Token) (f : Found Parameters) → read_named_list s stands false x ≡ Some f → is_receiver f.tree ≡ is_only_at s
unfolding read_named_list
named-list-receive s x f c = let Q = Receives s in bind Q (mark_at mark.LeftParen (x ∷ s)) _ (λ p e1 b1 c1. guard Q (is_none (mark_at mark.RightParen p.1)) _ (λ e2 b2 c2. bind Q ((stands p.1).named_params false) _ (λ ps e3 b3 c3. bind Q (mark_at mark.RightParen ps.rest) _ (λ q e4 b4 c4. from_some Q c4 (only-named p.1 ps e2 e3 ∙ ap is_only_at (mark-rest mark.LeftParen x s p e1))) b3 c3) b2 c2) b1 c1) f c

unnamed-list-receive : (s : List Token) (x : Token) (f : Found Parameters) → read_unnamed_list s stands false x ≡ Some f → is_receiver f.tree ≡ is_only_at s
unfolding read_unnamed_list
unnamed-list-receive s x f c = let Q = Receives s in bind Q (mark_at mark.LeftParen (x ∷ s)) _ (λ p e1 b1 c1. guard Q (is_none (mark_at mark.RightParen p.1)) _ (λ e2 b2 c2. guard Q (is_none ((stands p.1).named_params false)) _ (λ e3 b3 c3. bind Q ((stands p.1).unnamed false) _ (λ ps e4 b4 c4. bind Q (mark_at mark.RightParen ps.rest) _ (λ q e5 b5 c5. from_some Q c5 (only-unnamed p.1 ps e2 e3 e4 ∙ ap is_only_at (mark-rest mark.LeftParen x s p e1))) b4 c4) b3 c3) b2 c2) b1 c1) f c

params-receive : (s : List Token) (x : Token) (f : Found Parameters) → params_step s stands false x ≡ Some f → is_receiver f.tree ≡ is_only_at s
unfolding params_step
params-receive s x f c = let Q = Receives s in either Q _ _ (no-params-receive s x) (λ b e. either Q _ _ (named-list-receive s x) (unnamed-list-receive s x) b e) f c

receiver : (s : List Token) (f : Found Parameters) → (stands s).params false ≡ Some f → is_receiver f.tree ≡ receives s
receiver [] f c = absurd (some_is_none (sym (end_params false) ∙ c))
receiver (x ∷ s) f c = params-receive s x f (sym (at_params false x s) ∙ c)

-- a method's declaration asks whether the parameters of the place are a receiver
pub method_law : (x : Token) (s : List Token) → read_method_decl s stands x ≡ (word_at word.Func (x ∷ s) >>= λ p. mark_at mark.LeftParen p.1 >>= λ z1. (stands p.1).params false >>= λ ps. receives p.1 >> name_at ps.rest >>= λ n. (stands n.1).signature >>= λ z. (stands z.rest).body >>= λ o. Some (found (tp.Method p.0 ps.tree n.0 z.tree o.tree) o.rest (max ps.depth (max z.depth o.depth))))
unfolding read_method_decl
method_law x s = bind-same (word_at word.Func (x ∷ s)) (λ p e1. bind-same (mark_at mark.LeftParen p.1) (λ z1 e2. bind-same ((stands p.1).params false) (λ ps e3. guard-two _ _ (receiver p.1 ps e3) refl)))

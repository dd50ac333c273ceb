-- Suffixes and operands go on where one stands, and only there.
use Rattle.std.proofs.Common.{◌≡◌, ℕ, Bool, List, [], ◌∷◌, refl, sym, Option, Some, None, is_none}
use Rattle.gs_syntax.specs.declared.token.Token.{Token}
use Rattle.gs_grammar.specs.Front.{◌>>=◌, ◌>>◌, first}
use Rattle.gs_grammar.specs.Parts.{Found, found}
use Rattle.gs_grammar.specs.Steps.{suffix_step, suffixes_step, read_more_suffixes, read_no_suffixes, operand_step, operands_step, read_more_operands, read_no_operands}
use Rattle.gs_grammar.proofs.Common.{some_is_none}
use Rattle.gs_places.specs.Places.{spot, stands}

no-spot : {A : Type 0} (o : Option (Found A)) → spot o ≡ None → o ≡ None
no-spot None e = refl
no-spot (Some f) e = absurd (some_is_none (sym e))

first-none : {A B : Type 0} (o : Option A) (f : A → Option B) (g : Option B) → o ≡ None → first (o >>= f) (is_none o >> g) ≡ g
first-none o f g e = rw e refl

first-refused : {A : Type 0} (a : Option A) → first a None ≡ a
first-refused None = refl
first-refused (Some a) = refl

guarded : {A B : Type 0} (o : Option (Found A)) {p : ℕ × List Token} (a g : Option B) → spot o ≡ Some p → first a (is_none o >> g) ≡ a
guarded None a g e = absurd (some_is_none e)
guarded (Some f) a g e = first-refused a

pub suffixes_stay : (x : Token) (s : List Token) → spot (suffix_step s stands x) ≡ None → suffixes_step s stands x ≡ Some (found [] (x ∷ s) 0)
unfolding suffixes_step read_more_suffixes read_no_suffixes
suffixes_stay x s e = first-none (suffix_step s stands x) _ _ (no-spot _ e)

pub suffixes_go : (x : Token) (s : List Token) (p : ℕ × List Token) → spot (suffix_step s stands x) ≡ Some p → suffixes_step s stands x ≡ read_more_suffixes s stands x
unfolding suffixes_step read_no_suffixes
suffixes_go x s p e = guarded (suffix_step s stands x) _ _ e

pub operands_stay : (m : ℕ) (h : Bool) (x : Token) (s : List Token) → spot (operand_step s stands m h x) ≡ None → operands_step s stands m h x ≡ Some (found [] (x ∷ s) 0)
unfolding operands_step read_more_operands read_no_operands
operands_stay m h x s e = first-none (operand_step s stands m h x) _ _ (no-spot _ e)

pub operands_go : (m : ℕ) (h : Bool) (x : Token) (s : List Token) (p : ℕ × List Token) → spot (operand_step s stands m h x) ≡ Some p → operands_step s stands m h x ≡ read_more_operands s stands m h x
unfolding operands_step read_no_operands
operands_go m h x s p e = guarded (operand_step s stands m h x) _ _ e

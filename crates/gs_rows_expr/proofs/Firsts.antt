-- To stand first in parentheses or arguments matters to no operand but one that begins with a star or an arrow.
use Rattle.std.proofs.Common.{◌≡◌, ℕ, zero, suc, Bool, true, false, List, ◌∷◌, refl, None}
use Rattle.gs_syntax.specs.declared.token.Operator.{Operator}
use Rattle.gs_syntax.specs.declared.token.Operator.TheVariants as mark
use Rattle.gs_syntax.specs.declared.token.Token.{Token}
use Rattle.gs_grammar.specs.Front.{is_mark, mark_at}
use Rattle.gs_grammar.specs.Steps.{unary_step, read_bare_primary, read_signed, read_starred, read_receiver, read_receive_first, read_receive, expr_step}
use Rattle.gs_places.specs.Places.{stands}

not-at : (o : Operator) (x : Token) (s : List Token) → is_mark o x.kind ≡ false → mark_at o (x ∷ s) ≡ None
unfolding mark_at
not-at o x s e = rw e refl

pub same_unary : (h : Bool) (x : Token) (s : List Token) → is_mark mark.Star x.kind ≡ false → is_mark mark.Arrow x.kind ≡ false → unary_step s stands h true x ≡ unary_step s stands h false x
unfolding unary_step read_bare_primary read_signed read_starred read_receiver read_receive_first read_receive
same_unary h x s a b = rw (not-at mark.Star x s a, not-at mark.Arrow x s b) refl

pub same_expr : (m : ℕ) (h : Bool) (x : Token) (s : List Token) → is_mark mark.Star x.kind ≡ false → is_mark mark.Arrow x.kind ≡ false → expr_step s stands m h true x ≡ expr_step s stands m h false x
unfolding expr_step
same_expr zero h x s a b = same_unary h x s a b
same_expr (suc m) h x s a b = rw (same_expr m h x s a b) refl

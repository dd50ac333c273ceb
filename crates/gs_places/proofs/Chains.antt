-- Chains of steps that agree.
use Rattle.std.proofs.Common.{◌≡◌, Bool, true, false, List, refl, Option, Some, None}
use Rattle.gs_syntax.specs.declared.token.Token.{Token}
use Rattle.gs_grammar.specs.Front.{◌>>=◌, ◌>>◌, first}
use Rattle.gs_grammar.specs.Reference.{rows, row_at}
use Rattle.gs_grammar.proofs.Common.{Ends}
use Rattle.gs_grammar.proofs.Rows.{look}
use Rattle.gs_places.specs.Places.{stands}

-- the rows of the tokens behind a place are those of each place
pub agree : {s r : List Token} → Ends s r → row_at (rows s) r ≡ stands r
unfolding stands
agree q = look q

pub bind-same : {A B : Type 0} (o : Option A) {f h : A → Option B} → ((a : A) → o ≡ Some a → f a ≡ h a) → (o >>= f) ≡ (o >>= h)
bind-same None g = refl
bind-same (Some a) g = g a refl

pub bind-two : {A B : Type 0} (o p : Option A) {f h : A → Option B} → o ≡ p → ((a : A) → o ≡ Some a → f a ≡ h a) → (o >>= f) ≡ (p >>= h)
bind-two None p e g = rw (← e) refl
bind-two (Some a) p e g = rw (← e) (g a refl)

pub guard-same : {B : Type 0} (c : Bool) {o p : Option B} → o ≡ p → (c >> o) ≡ (c >> p)
guard-same true e = e
guard-same false e = refl

pub guard-two : {B : Type 0} (c d : Bool) {o p : Option B} → c ≡ d → o ≡ p → (c >> o) ≡ (d >> p)
guard-two c d e f = rw (e, f) refl

pub first-two : {B : Type 0} {a b c d : Option B} → a ≡ b → c ≡ d → first a c ≡ first b d
first-two e f = rw (e, f) refl

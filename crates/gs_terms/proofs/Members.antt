-- What stands in a list of types, fields or methods is lighter than the list: the measure of a walk over it.
use Rattle.std.proofs.Common.{◌≡◌, ℕ, zero, suc, ◌<◌, List, [], ◌∷◌, length, get_or, arith, ap}
use Rattle.gs_terms.specs.declared.term.FieldTerm.{FieldTerm}
use Rattle.gs_terms.specs.declared.term.Method.{Method}
use Rattle.gs_terms.specs.Term.{Term, weight, terms_weight, fields_weight, methods_weight}
use Rattle.gs_terms.specs.Shown.{terms_of, fields_of, methods_of}

pub weight-term : (ts : List Term) (i : ℕ) (t : Term) → i < length ts → t ≡ get_or ts i t → weight t < terms_weight (terms_of ts)
weight-term [] i t within is = absurd (omega (arith, within))
weight-term (x ∷ ts) zero t within is = omega (arith, ap weight is)
weight-term (x ∷ ts) (suc i) t within is = omega (arith, weight-term ts i t (omega (arith, within)) is)

pub weight-field : (fs : List FieldTerm) (i : ℕ) (f : FieldTerm) → i < length fs → f ≡ get_or fs i f → weight f.term < fields_weight (fields_of fs)
weight-field [] i f within is = absurd (omega (arith, within))
weight-field (x ∷ fs) zero f within is = omega (arith, ap (λ (g : FieldTerm). weight g.term) is)
weight-field (x ∷ fs) (suc i) f within is = omega (arith, weight-field fs i f (omega (arith, within)) is)

pub weight-method : (ms : List Method) (i : ℕ) (m : Method) → i < length ms → m ≡ get_or ms i m → weight m.term < methods_weight (methods_of ms)
weight-method [] i m within is = absurd (omega (arith, within))
weight-method (x ∷ ms) zero m within is = omega (arith, ap (λ (g : Method). weight g.term) is)
weight-method (x ∷ ms) (suc i) m within is = omega (arith, weight-method ms i m (omega (arith, within)) is)

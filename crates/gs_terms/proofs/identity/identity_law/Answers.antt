use Rattle.gs_terms.proofs.IdentityLaws.{identical_self, symmetric, transitive, passed, bare_same, bare_passes}
use Rattle.gs_terms.proofs.identity.identity_law.Goals as goal

pub returns-clause-rules : goal.returns-clause-rules
returns-clause-rules c a b = (passed a b, λ h. bare_passes a b (bare_same a b h))

pub returns-clause-equal : goal.returns-clause-equal
returns-clause-equal c a b = (λ p. bare_same a b (passed a b p), bare_passes a b)

pub returns-clause-reflexive : goal.returns-clause-reflexive
returns-clause-reflexive c a = identical_self a

pub returns-clause-symmetric : goal.returns-clause-symmetric
returns-clause-symmetric c a b p = symmetric a b p

pub returns-clause-transitive : goal.returns-clause-transitive
returns-clause-transitive c d e f p q = transitive d e f p q

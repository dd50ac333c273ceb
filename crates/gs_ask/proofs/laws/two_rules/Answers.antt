use Rattle.std.proofs.Common.{Contains}
use Rattle.gs_ask.specs.Stays.{Anything}
use Rattle.gs_ask.proofs.Runs.{run_bind}
use Rattle.gs_ask.proofs.Stays.{stays_bind}
use Rattle.gs_ask.proofs.laws.two_rules.Goals as goal

pub returns-clause-one_after_another : goal.returns-clause-one_after_another
returns-clause-one_after_another g c = run_bind

pub returns-clause-both_ask_alike : goal.returns-clause-both_ask_alike
returns-clause-both_ask_alike g c K m t k h go = stays_bind (Contains K) m Anything Anything Anything t k h (λ a u. go a)

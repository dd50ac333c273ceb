use Rattle.std.proofs.Common.{[], Contains}
use Rattle.gs_ask.specs.Stays.{Anything}
use Rattle.gs_ask.proofs.Runs.{run_settle_from, run_also_all}
use Rattle.gs_ask.proofs.Stays.{stays_settle}
use Rattle.gs_ask.proofs.laws.what_is_kept.Goals as goal

pub returns-clause-kept_is_checked : goal.returns-clause-kept_is_checked
returns-clause-kept_is_checked g c m ns t = run_settle_from m ns [] t

pub returns-clause-kept_asks_alike : goal.returns-clause-kept_asks_alike
returns-clause-kept_asks_alike g c K m t h = stays_settle (Contains K) m Anything t h

pub returns-clause-notes_lead_on : goal.returns-clause-notes_lead_on
returns-clause-notes_lead_on g c = run_also_all

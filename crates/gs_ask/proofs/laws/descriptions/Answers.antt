use Rattle.std.proofs.Common.{Contains}
use Rattle.gs_ask.proofs.Depth.{deeper, one_reply, run_at_depth}
use Rattle.gs_ask.proofs.DepthLocal.{agree_to}
use Rattle.gs_ask.proofs.Ranks.{same_here}
use Rattle.gs_ask.proofs.laws.descriptions.Goals as goal

pub returns-clause-description_remains : goal.returns-clause-description_remains
returns-clause-description_remains g c = deeper

pub returns-clause-at_most_one : goal.returns-clause-at_most_one
returns-clause-at_most_one g c = one_reply

pub returns-clause-ends_at_some_depth : goal.returns-clause-ends_at_some_depth
returns-clause-ends_at_some_depth g c p m at ns gs ks ls t r h = run_at_depth p m at ns gs ks ls t r h

pub returns-clause-same_text_same_depth : goal.returns-clause-same_text_same_depth
returns-clause-same_text_same_depth g c names K = agree_to names (Contains K)

pub returns-clause-same_text_same_description : goal.returns-clause-same_text_same_description
returns-clause-same_text_same_description g c names K = same_here names (Contains K)

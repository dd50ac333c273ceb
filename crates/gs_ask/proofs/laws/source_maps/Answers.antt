use Rattle.std.proofs.Common.{Contains}
use Rattle.gs_ask.proofs.Ranks.{same_worlds}
use Rattle.gs_ask.proofs.laws.source_maps.Goals as goal

pub returns : goal.returns
returns g c = record { same_reach_same_descriptions = λ names K w prog prog' m m' world. record { on = same_worlds names (Contains K) w prog prog' m m' world } }

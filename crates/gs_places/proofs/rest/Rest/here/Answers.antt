use Rattle.std.proofs.Common.{◌∙◌, arith}
use Rattle.gs_places.proofs.Table.{here_is, here_within}
use Rattle.gs_places.proofs.rest.Rest.here.Goals as goal

pub unreachable-requires : goal.unreachable-requires
unreachable-requires c = absurd (omega (arith, c.in-None.ensures.lookup.3, here_within c.args.self.tokens.now c.args.self.table.now c.args.self.fits))

pub returns : goal.returns
returns c = c.in-Some.ensures.lookup.3.1 c.in-Some.place.now ∙ here_is c.args.self.tokens.now c.args.self.table.now _ c.args.self.fits

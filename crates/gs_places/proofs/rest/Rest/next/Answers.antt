use Rattle.std.proofs.Common.{ap, arith, length}
use Rattle.gs_places.proofs.Table.{fits_first}
use Rattle.gs_places.proofs.rest.Rest.next.Goals as goal

pub invariant_of-result : goal.invariant_of-result
invariant_of-result c =
    let cons = c.in_ok-first.ensures.cases.0 in
    record {
      few = omega (arith, c.args.self.few, ap length cons);
      fits = fits_first c.args.self.tokens.now c.in_ok-first.first.now c.in_ok-first.tokens.now c.args.self.table.now c.args.self.fits cons;
    }

use Rattle.std.proofs.Common.{◌-◌, ap, arith, length, length-drop}
use Rattle.gs_places.proofs.Table.{fits_last}
use Rattle.gs_places.proofs.rest.Rest.jump.Goals as goal

pub invariant_of-result : goal.invariant_of-result
invariant_of-result c =
    let back = c.split_at.ensures.back in
    record {
      few = omega (arith, c.args.self.few, ap length back, length-drop (length c.args.self.tokens.now - c.in_ok-cell.cell.left) c.args.self.tokens.now);
      fits = fits_last (length c.args.self.tokens.now - c.in_ok-cell.cell.left) c.args.self.tokens.now c.split_at.result.1.now c.args.self.table.now c.args.self.fits back;
    }

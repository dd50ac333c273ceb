use Rattle.gs_terms.proofs.Shifts.{left_short, left_long}
use Rattle.gs_terms.proofs.constant.shifted_left.Goals as goal

pub returns-then-count-lt127 : goal.returns-then-count-lt127
returns-then-count-lt127 c =
    left_short c.args.x c.args.count c.product.result c.ranges.x c.ranges.count c.if-count-lt0.false c.if-count-lt127.true c.product.ensures

pub returns-else-x-eqminus1 : goal.returns-else-x-eqminus1
returns-else-x-eqminus1 c =
    left_long c.args.x c.args.count c.ranges.count c.if-count-lt0.false c.if-x-eq0.false c.if-count-lt127.false c.else-x-eqminus1.either

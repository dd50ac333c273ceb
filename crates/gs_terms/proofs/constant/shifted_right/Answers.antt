use Rattle.gs_terms.proofs.Shifts.{right_long_negative, right_long}
use Rattle.gs_terms.proofs.constant.shifted_right.Goals as goal

pub returns-then-x-lt0 : goal.returns-then-x-lt0
returns-then-x-lt0 c =
    right_long_negative c.args.x c.args.count c.ranges.x c.ranges.count c.if-count-lt0.false c.if-count-lt127.false c.if-x-lt0.true

pub returns-else-x-lt0 : goal.returns-else-x-lt0
returns-else-x-lt0 c =
    right_long c.args.x c.args.count c.ranges.x c.ranges.count c.if-count-lt0.false c.if-count-lt127.false c.if-x-lt0.false

use Rattle.std.proofs.Common.{arith, ◌∙◌}
use Rattle.goserve.proofs.Placing.{place_further, line_small, column_small, part_small}
use Rattle.goserve.proofs.line.place_at.Goals as goal

pub place_behind-requires-else-at-from-clause-line : goal.place_behind-requires-else-at-from-clause-line
place_behind-requires-else-at-from-clause-line c = omega (
  arith,
  line_small c.args.place c.args.input.now c.args.from c.requires.place,
  part_small c.args.input.now c.part-else-at-from.result.now c.args.from c.args.at c.part-else-at-from.ensures,
)

pub place_behind-requires-else-at-from-clause-column : goal.place_behind-requires-else-at-from-clause-column
place_behind-requires-else-at-from-clause-column c = omega (
  arith,
  column_small c.args.place c.args.input.now c.args.from c.requires.place,
  part_small c.args.input.now c.part-else-at-from.result.now c.args.from c.args.at c.part-else-at-from.ensures,
)

pub returns-else-at-from : goal.returns-else-at-from
returns-else-at-from c = c.place_behind-else-at-from.ensures
    ∙ place_further c.args.place c.args.input.now c.part-else-at-from.result.now c.args.from c.args.at c.requires.place c.if-at-from.false c.part-else-at-from.ensures

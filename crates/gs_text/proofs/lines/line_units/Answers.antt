use Rattle.std.proofs.Common.{◌≡◌, ◌+◌, length, ap, sym, ◌∙◌, arith}
use Rattle.std.specs.Str.{chars}
use Rattle.std.proofs.lemmas.Iterator.{YieldsList-from_chars}
use Rattle.std.proofs.lemmas.Iterator.Consumers.{YieldsList-turn, YieldsList-end}
use Rattle.std.proofs.lemmas.List.{length_push}
use Rattle.gs_text.specs.Units.{units_of}
use Rattle.gs_text.proofs.Walks.{line_rest, line_rest-stop, line_rest-end, units_more, units_walk, line_units_within}
use Rattle.gs_text.proofs.lines.line_units.Goals as goal

pub returns-then-not-is_in_line : goal.returns-then-not-is_in_line
returns-then-not-is_in_line c =
    let t = YieldsList-turn (YieldsList-from_chars c.args.text.now c.utf8.text cc) c.loop-c.yielded _ c.loop-c.yielded_by _ _ c.in-Some.c c.in-Some.is c.next.ensures.steps in
    let stop = ap (units_of c.args.unit) (line_rest-stop (chars c.args.text.now) (length c.loop-c.yielded) c.in-Some.c t (sym c.is_in_line.ensures ∙ c.if-not-is_in_line.true)) in
    omega (arith, stop, c.loop-c.invariant, units_walk c.args.unit c.args.text.now c.utf8.text)

step : (c : goal.After-width-taken) → units_of c.args.unit (line_rest (chars c.args.text.now) (length c.loop-c.yielded)) ≡ c.width-taken.result + units_of c.args.unit (line_rest (chars c.args.text.now) (length c.loop-c.yielded + 1))
step c =
    let t = YieldsList-turn (YieldsList-from_chars c.args.text.now c.utf8.text cc) c.loop-c.yielded _ c.loop-c.yielded_by _ _ c.in-Some.c c.in-Some.is c.next.ensures.steps in
    units_more c.args.unit (chars c.args.text.now) (length c.loop-c.yielded) c.in-Some.c t (sym c.is_in_line.ensures ∙ c.if-not-is_in_line.false)
    ∙ ap (λ n. n + units_of c.args.unit (line_rest (chars c.args.text.now) (length c.loop-c.yielded + 1))) (sym c.width-taken.ensures)

pub overflow_add-count : goal.overflow_add-count
overflow_add-count c = omega (arith, step c, c.loop-c.invariant, c.requires, line_units_within c.args.unit c.args.text.now c.utf8.text)

pub loop-c-preserved : goal.loop-c-preserved
loop-c-preserved c =
    let next = ap (λ n. units_of c.args.unit (line_rest (chars c.args.text.now) n)) (length_push c.loop-c.yielded c.in-Some.c) in
    omega (arith, step c, c.loop-c.invariant, next)

pub returns : goal.returns
returns c =
    let t = YieldsList-end (YieldsList-from_chars c.args.text.now c.utf8.text cc) c.loop-c.yielded _ c.loop-c.yielded_by _ _ c.in-None.is c.next.ensures.steps in
    let stop = ap (units_of c.args.unit) (line_rest-end (chars c.args.text.now) (length c.loop-c.yielded) (omega (arith, t.1))) in
    omega (arith, stop, c.loop-c.invariant, units_walk c.args.unit c.args.text.now c.utf8.text)

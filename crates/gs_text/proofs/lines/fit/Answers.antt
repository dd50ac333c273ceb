use Rattle.std.proofs.Common.{◌≡◌, ◌<◌, ◌+◌, ◌-◌, ◌⊎◌, length, false, inl, inr, ap, sym, ◌∙◌, arith}
use Rattle.std.specs.Str.{chars}
use Rattle.std.proofs.lemmas.Iterator.{YieldsList-from_chars}
use Rattle.std.proofs.lemmas.Iterator.Consumers.{YieldsList-turn, YieldsList-end}
use Rattle.std.proofs.lemmas.List.{length_push}
use Rattle.gs_text.specs.LineEnds.{is_in_line}
use Rattle.gs_text.specs.Units.{units_of_character}
use Rattle.gs_text.proofs.Fits.{fit_len}
use Rattle.gs_text.proofs.Walks.{line_rest, fit_more, fit_stopped, fit_end, fit_len-within, bytes_within-walk}
use Rattle.gs_text.proofs.lines.fit.Goals as goal
use Rattle.gs_text.proofs.lines.fit.Goals.{then-not-is_in_line-via-then-not-is_in_line, then-not-is_in_line-via-else-not-is_in_line+then-left-taken}

stops : (c : goal.Joined-then-not-is_in_line) → (is_in_line c.in-Some.c ≡ false) ⊎ (c.loop-c.left < units_of_character c.args.unit c.in-Some.c)
stops c =
    elim c.then-not-is_in_line.branch [
      | then-not-is_in_line-via-then-not-is_in_line w ↦ inl (sym c.is_in_line.ensures ∙ w.if-not-is_in_line.true)
      | then-not-is_in_line-via-else-not-is_in_line+then-left-taken w ↦ inr (omega (arith, w.if-left-taken.true, c.width-taken.ensures))
    ]

nothing : (c : goal.Joined-then-not-is_in_line) → fit_len c.args.unit c.loop-c.left (line_rest (chars c.args.text.now) (length c.loop-c.yielded)) ≡ 0
nothing c =
    let t = YieldsList-turn (YieldsList-from_chars c.args.text.now c.utf8.text cc) c.loop-c.yielded _ c.loop-c.yielded_by _ _ c.in-Some.c c.in-Some.is c.next.ensures.steps in
    fit_stopped c.args.unit (chars c.args.text.now) (length c.loop-c.yielded) c.in-Some.c c.loop-c.left t (stops c)

pub returns-then-not-is_in_line-clause-within : goal.returns-then-not-is_in_line-clause-within
returns-then-not-is_in_line-clause-within c =
    omega (arith, nothing c, c.loop-c.invariant, fit_len-within c.args.unit c.args.text.now c.args.units c.utf8.text)

pub returns-then-not-is_in_line-clause-value : goal.returns-then-not-is_in_line-clause-value
returns-then-not-is_in_line-clause-value c =
    omega (arith, nothing c, c.loop-c.invariant, bytes_within-walk c.args.unit c.args.text.now c.args.units c.utf8.text)

-- what fits is this character, and what fits behind it
step : (c : goal.After-len_utf8-bytes) → fit_len c.args.unit c.loop-c.left (line_rest (chars c.args.text.now) (length c.loop-c.yielded)) ≡ c.len_utf8-bytes.result + fit_len c.args.unit (c.loop-c.left - c.width-taken.result) (line_rest (chars c.args.text.now) (length c.loop-c.yielded + 1))
step c =
    let t = YieldsList-turn (YieldsList-from_chars c.args.text.now c.utf8.text cc) c.loop-c.yielded _ c.loop-c.yielded_by _ _ c.in-Some.c c.in-Some.is c.next.ensures.steps in
    fit_more c.args.unit (chars c.args.text.now) (length c.loop-c.yielded) c.in-Some.c c.loop-c.left t (sym c.is_in_line.ensures ∙ c.if-not-is_in_line.false) (omega (arith, c.if-left-taken.false, c.width-taken.ensures))
    ∙ ap (λ n. n + fit_len c.args.unit (c.loop-c.left - units_of_character c.args.unit c.in-Some.c) (line_rest (chars c.args.text.now) (length c.loop-c.yielded + 1))) (sym c.len_utf8-bytes.ensures.value)
    ∙ ap (λ n. c.len_utf8-bytes.result + fit_len c.args.unit (c.loop-c.left - n) (line_rest (chars c.args.text.now) (length c.loop-c.yielded + 1))) (sym c.width-taken.ensures)

pub overflow_add-bytes : goal.overflow_add-bytes
overflow_add-bytes c =
    omega (arith, step c, c.loop-c.invariant, fit_len-within c.args.unit c.args.text.now c.args.units c.utf8.text)

pub loop-c-preserved : goal.loop-c-preserved
loop-c-preserved c =
    let next = ap (λ n. fit_len c.args.unit (c.loop-c.left - c.width-taken.result) (line_rest (chars c.args.text.now) n)) (length_push c.loop-c.yielded c.in-Some.c) in
    omega (arith, step c, c.loop-c.invariant, next)

pub returns-clause-within : goal.returns-clause-within
returns-clause-within c =
    let t = YieldsList-end (YieldsList-from_chars c.args.text.now c.utf8.text cc) c.loop-c.yielded _ c.loop-c.yielded_by _ _ c.in-None.is c.next.ensures.steps in
    omega (arith, fit_end c.args.unit (chars c.args.text.now) (length c.loop-c.yielded) c.loop-c.left (omega (arith, t.1)), fit_len-within c.args.unit c.args.text.now c.args.units c.utf8.text)

pub returns-clause-value : goal.returns-clause-value
returns-clause-value c =
    let t = YieldsList-end (YieldsList-from_chars c.args.text.now c.utf8.text cc) c.loop-c.yielded _ c.loop-c.yielded_by _ _ c.in-None.is c.next.ensures.steps in
    omega (arith, fit_end c.args.unit (chars c.args.text.now) (length c.loop-c.yielded) c.loop-c.left (omega (arith, t.1)), bytes_within-walk c.args.unit c.args.text.now c.args.units c.utf8.text)

use Rattle.std.proofs.Common.{arith, sym, ap, ◌∙◌, take, drop}
use Rattle.std.proofs.lemmas.List.{take_all, drop_all}
use Rattle.gs_chunks.proofs.Texts.{below_is, below_all}
use Rattle.gs_chunks.proofs.docs.split_below.Goals as goal

pub returns-then-number-end-clause-front : goal.returns-then-number-end-clause-front
returns-then-number-end-clause-front c =
    c.split_at.ensures.front ∙ ap (λ n. take n c.args.numbers.now) (sym (below_is c.args.numbers.now c.args.end c.loop-i.i c.loop-i-test.true c.loop-i.invariant c.if-number-end.true))

pub returns-then-number-end-clause-back : goal.returns-then-number-end-clause-back
returns-then-number-end-clause-back c =
    c.split_at.ensures.back ∙ ap (λ n. drop n c.args.numbers.now) (sym (below_is c.args.numbers.now c.args.end c.loop-i.i c.loop-i-test.true c.loop-i.invariant c.if-number-end.true))

pub returns-clause-front : goal.returns-clause-front
returns-clause-front c = sym (take_all _ c.args.numbers.now (omega (arith, below_all c.args.numbers.now c.args.end c.loop-i.i c.loop-i-test.false c.loop-i.invariant)))

pub returns-clause-back : goal.returns-clause-back
returns-clause-back c = sym (drop_all _ c.args.numbers.now (omega (arith, below_all c.args.numbers.now c.args.end c.loop-i.i c.loop-i-test.false c.loop-i.invariant)))

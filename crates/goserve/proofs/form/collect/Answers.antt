use Rattle.std.proofs.Common.{arith, ◌&&◌, ◌∙◌, sym, ap}
use Rattle.goserve.proofs.Naming.{names_more, order_more}
use Rattle.goserve.proofs.form.collect.Goals as goal

pub loop-at-preserved-then-next : goal.loop-at-preserved-then-next
loop-at-preserved-then-next c =
    let d = c.item_at.result in
    record {
      within = omega arith;
      names = names_more c.loop-at.names c.add.new.names c.args.declarations.now d c.loop-at.at (omega arith) c.item_at.ensures c.loop-at.invariant.names c.in_ok-next.ensures.names;
      order = sym (ap (λ b. b && c.loop-at.in_order) c.if-next.true)
          ∙ order_more c.loop-at.names c.args.declarations.now d c.loop-at.at c.in_ok-next.next c.loop-at.in_order (omega arith) c.item_at.ensures c.loop-at.invariant.names c.in_ok-next.ensures.next c.loop-at.invariant.order;
    }

pub loop-at-preserved : goal.loop-at-preserved
loop-at-preserved c =
    let d = c.item_at.result in
    record {
      within = omega arith;
      names = names_more c.loop-at.names c.add.new.names c.args.declarations.now d c.loop-at.at (omega arith) c.item_at.ensures c.loop-at.invariant.names c.in_ok-next.ensures.names;
      order = c.if-next.false ∙ sym (ap (λ b. b && c.loop-at.in_order) c.if-next.false)
          ∙ order_more c.loop-at.names c.args.declarations.now d c.loop-at.at c.in_ok-next.next c.loop-at.in_order (omega arith) c.item_at.ensures c.loop-at.invariant.names c.in_ok-next.ensures.next c.loop-at.invariant.order;
    }

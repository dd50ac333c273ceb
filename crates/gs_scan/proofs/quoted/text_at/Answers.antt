use Rattle.std.proofs.Common.{◌+◌, ◌-◌, length, take, drop, sym, ◌∙◌, ap, refl, subst, arith}
use Rattle.gs_syntax.specs.Quotes.{IsText}
use Rattle.gs_scan.specs.Reading.{IsOnlyFront}
use Rattle.gs_scan.proofs.QuoteLemmas.{InText, step, item_spelled, no_text, text_front, range_from}
use Rattle.gs_scan.specs.Escapes.{item_at}
use Rattle.gs_scan.proofs.quoted.text_at.Goals as goal
use Rattle.gs_scan.proofs.quoted.text_at.Goals.{In_ok-push_item}

next : (c : In_ok-push_item) → InText c.args.rest.now c.push_item.new.value.items (c.loop-item.at + c.in-Some.len)
next c = step c.args.rest.now c.loop-item.value.items c.push_item.new.value.items (take (length c.args.rest.now - c.loop-item.at) (drop c.loop-item.at c.args.rest.now)) c.loop-item.at c.in-Some.len c.in-Some.item c.loop-item.invariant (range_from c.args.rest.now c.loop-item.at) (sym c.item_at.ensures ∙ c.in-Some.is) c.in_ok-push_item.ensures

pub overflow_add-at : goal.overflow_add-at
overflow_add-at c = let h = (next c).within in omega (arith, h)

pub loop-item-smaller : goal.loop-item-smaller
loop-item-smaller c = let h = (next c).within in let p = item_spelled (drop c.loop-item.at c.args.rest.now) c.in-Some.item c.in-Some.len (ap item_at (sym (range_from c.args.rest.now c.loop-item.at)) ∙ sym c.item_at.ensures ∙ c.in-Some.is) in omega (arith, h, p.0)

pub loop-item-preserved : goal.loop-item-preserved
loop-item-preserved c = next c

pub returns-in_ok-value : goal.returns-in_ok-value
returns-in_ok-value c = subst (λ l. IsOnlyFront IsText c.args.rest.now l (c.loop-item.at + 1)) (sym c.in_ok-value.ensures)
    (text_front c.args.rest.now c.loop-item.value.items (take (length c.args.rest.now - c.loop-item.at) (drop c.loop-item.at c.args.rest.now)) c.loop-item.at (c.loop-item.at + 1) c.loop-item.invariant (range_from c.args.rest.now c.loop-item.at) (sym c.item_at.ensures ∙ c.in_default.is) (sym c.byte_at.ensures ∙ c.if-byte_at-eq34.true) refl)

pub returns-else-byte_at-eq34 : goal.returns-else-byte_at-eq34
returns-else-byte_at-eq34 c =
    no_text c.args.rest.now c.loop-item.value.items (take (length c.args.rest.now - c.loop-item.at) (drop c.loop-item.at c.args.rest.now)) c.loop-item.at c.loop-item.invariant (range_from c.args.rest.now c.loop-item.at) (sym c.item_at.ensures ∙ c.in_default.is) (λ e. c.if-byte_at-eq34.false (c.byte_at.ensures ∙ e))

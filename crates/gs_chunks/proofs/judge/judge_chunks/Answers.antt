use Rattle.std.proofs.Common.{◌+◌, drop, subst, ◌∙◌}
use Rattle.gs_chunks.specs.Drafts.{HasVerdicts}
use Rattle.gs_chunks.specs.Verdicts.{parts_of}
use Rattle.gs_chunks.proofs.Judging.{Leads, front_at, leads_all, leads_first, leads_more, none_left}
use Rattle.gs_chunks.proofs.judge.judge_chunks.Goals as goal

pub loop-place-init : goal.loop-place-init
loop-place-init g c = leads_first g.L.Look.keeps _ _ _ _ c.new.ensures.items c.new-2.ensures.items c.new-3.ensures.items

pub loop-place-preserved : goal.loop-place-preserved
loop-place-preserved g c =
    leads_more g.L.Look.keeps
    (parts_of c.args.tokens.now c.deref-place-items.result.now)
    c.part-chunk.result.now
    (parts_of c.args.tokens.now (drop (c.loop-place.place-index + 1) c.deref-place-items.result.now))
    c.loop-place.draft
    c.judge.new.draft
    c.loop-place.stage
    c.in_ok-stage.stage
    c.in_ok-stage.ensures
    (
    subst
    (λ rest. Leads g.L.Look.keeps (parts_of c.args.tokens.now c.deref-place-items.result.now) rest c.loop-place.stage c.loop-place.draft.chunks.items c.loop-place.draft.starts.items c.loop-place.draft.faults.items)
    (front_at c.args.tokens.now c.deref-place-items.result.now c.loop-place.place-index c.part-chunk.result.now c.loop-place-test.true c.part-chunk.ensures)
    c.loop-place.invariant
    )

pub returns : goal.returns
returns g c =
    subst (λ places. HasVerdicts g.L.Look.keeps (parts_of c.args.tokens.now places) c.loop-place.draft) (c.deref-place-items.ensures.value ∙ c.in_ok-places.ensures)
    (
    leads_all g.L.Look.keeps
    (parts_of c.args.tokens.now c.deref-place-items.result.now)
    c.loop-place.stage
    c.loop-place.draft
    (
    subst
    (λ rest. Leads g.L.Look.keeps (parts_of c.args.tokens.now c.deref-place-items.result.now) rest c.loop-place.stage c.loop-place.draft.chunks.items c.loop-place.draft.starts.items c.loop-place.draft.faults.items)
    (none_left c.args.tokens.now c.deref-place-items.result.now c.loop-place.place-index c.loop-place-test.false)
    c.loop-place.invariant
    )
    )

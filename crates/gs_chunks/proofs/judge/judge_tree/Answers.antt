use Rattle.std.proofs.Common.{◌≡◌, ◌≢◌, ◌⊎◌, inl, inr, sym, ap, ◌∙◌, true, false, length}
use Rattle.gs_chunks.specs.Verdicts.{behind, deep, first_class, takes}
use Rattle.gs_chunks.proofs.Judging.{ok_then}
use Rattle.gs_chunks.proofs.Verdicts.{judged_dropped, look_deep, look_lacks, look_tree, none_dropped, unfit_end, judged_kept}
use Rattle.gs_chunks.proofs.judge.judge_tree.Goals as goal
use Rattle.gs_chunks.proofs.judge.judge_tree.Goals.{else-end-tokens-via-then-end-tokens+else-takes, else-end-tokens-via-else-end-tokens}

pub returns-in-TooDeep : goal.returns-in-TooDeep
returns-in-TooDeep g c =
    ok_then _ _ c.drop_chunk.result c.drop_chunk.ensures (λ next added. judged_dropped _ _ _ _ next _ _ (deep c.requires.good (look_deep g.L.Look.keeps c.args.tokens.now c.in-TooDeep.ensures)) (added g.L.Look.keeps))

pub returns-in-None : goal.returns-in-None
returns-in-None g c =
    ok_then _ _ c.drop_chunk-in-None.result c.drop_chunk-in-None.ensures
    (λ next added. judged_dropped _ _ _ _ next _ _ (none_dropped _ _ c.requires.good (look_lacks g.L.Look.keeps c.args.tokens.now c.in-None.ensures)) (added g.L.Look.keeps))

pub returns-else-end-tokens : goal.returns-else-end-tokens
returns-else-end-tokens g c =
    let unfit : (c.in-Tree.end ≢ length c.args.tokens.now) ⊎ (takes c.args.stage (first_class c.args.tokens.now) ≡ false) = elim c.else-end-tokens.branch [
      | else-end-tokens-via-then-end-tokens+else-takes w ↦ inr (rw (← c.first_class-class.ensures) (sym w.takes.ensures ∙ w.if-takes.false))
      | else-end-tokens-via-else-end-tokens w ↦ inl w.if-end-tokens.false
    ] in
    let seen = look_tree g.L.Look.keeps c.args.tokens.now c.in-Tree.tree c.in-Tree.end c.in-Tree.ensures in
    ok_then _ _ c.drop_chunk-else-end-tokens.result c.drop_chunk-else-end-tokens.ensures
    (λ next added. judged_dropped _ _ _ _ next _ _ (unfit_end c.one_chunk.ensures _ _ c.in-Tree.end c.requires.good seen.0 unfit) (added g.L.Look.keeps))

pub returns-in_ok-keep_chunk-in-Tree : goal.returns-in_ok-keep_chunk-in-Tree
returns-in_ok-keep_chunk-in-Tree g c =
    let class = c.first_class-class.ensures in
    let fits : takes c.args.stage (first_class c.args.tokens.now) ≡ true = rw (← c.first_class-class.ensures) (sym c.takes.ensures ∙ c.if-takes.true) in
    rw (c.behind.ensures ∙ ap (behind c.args.stage) c.first_class-class.ensures)
    (
    judged_kept g.L.Look.keeps c.args.draft.now c.keep_chunk.new.draft c.args.stage c.args.tokens.now c.in-Tree.tree c.in-Tree.end c.requires.good c.in-Tree.ensures c.if-end-tokens.true fits
    c.in_ok-keep_chunk-in-Tree.ensures.chunks c.in_ok-keep_chunk-in-Tree.ensures.starts c.in_ok-keep_chunk-in-Tree.ensures.faults
    )

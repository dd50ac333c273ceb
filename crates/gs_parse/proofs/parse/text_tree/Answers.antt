use Rattle.std.proofs.Common.{◌+◌, ap, length, subst, sym, ◌∙◌}
use Rattle.gs_syntax.specs.Tokens.{AreTokens, mark_size}
use Rattle.gs_scan.specs.Comments.{AreComments, Ascends}
use Rattle.gs_chunks.specs.Docs.{docs_at}
use Rattle.gs_chunks.specs.Files.{empty}
use Rattle.gs_chunks.specs.Walks.{AreSlashed}
use Rattle.gs_chunks.proofs.Judging.{ok_then, no_items}
use Rattle.gs_chunks.proofs.Offsets.{comments_slashed, starts_ascend}
use Rattle.gs_parse.proofs.Trees.{file_tree, starts_kept, tree_alone}
use Rattle.gs_parse.proofs.parse.text_tree.Goals as goal

pub returns-then-is_empty : goal.returns-then-is_empty
returns-then-is_empty c =
    let none = sym c.as_slice-tokens.ensures.value ∙ no_items c.as_slice-tokens.result.now c.if-is_empty.ensures in
    ok_then _ _ c.tree_alone.result c.tree_alone.ensures
    (λ tree. tree_alone c.args.text.now 1 tree (empty c.requires c.utf8.text (subst (AreTokens c.args.text.now) none c.in_ok-found.ensures.tokens)))

pub docs_of-requires-clause-slashed : goal.docs_of-requires-clause-slashed
docs_of-requires-clause-slashed c =
    subst (AreSlashed c.args.text.now) (sym c.as_slice.ensures.value) (comments_slashed c.args.text.now c.in_ok-found.found.comments.items c.in_ok-found.ensures.comments)

pub docs_of-requires-clause-starts : goal.docs_of-requires-clause-starts
docs_of-requires-clause-starts c =
    let are = subst (AreTokens c.args.text.now) (sym c.as_slice-tokens.ensures.value) c.in_ok-found.ensures.tokens in
    let verdicts = c.in_ok-draft.ensures in
    subst (Ascends (mark_size c.args.text.now) (length c.args.text.now + 1)) (sym (c.as_slice-2.ensures.value ∙ verdicts.starts ∙ starts_kept _ verdicts.verdicts))
    (starts_ascend c.args.text.now c.as_slice-tokens.result.now verdicts.verdicts are (c.chunks_follow.ensures c.as_slice-tokens.result.now))

pub returns : goal.returns
returns c =
    file_tree
    c.args.text.now
    c.as_slice-tokens.result.now
    c.as_slice.result.now
    c.in_ok-draft.draft
    (record { chunks = c.from_vec.result; docs = c.from_vec-2.result; faults = c.from_vec-3.result })
    c.requires
    c.utf8.text
    (subst (AreTokens c.args.text.now) (sym c.as_slice-tokens.ensures.value) c.in_ok-found.ensures.tokens)
    (sym c.is_empty.ensures ∙ c.if-is_empty.false)
    (subst (AreComments c.args.text.now) (sym c.as_slice.ensures.value) c.in_ok-found.ensures.comments)
    c.in_ok-draft.ensures
    c.from_vec.ensures
    (c.from_vec-2.ensures ∙ c.in_ok-docs.ensures ∙ ap (docs_at c.args.text.now c.as_slice.result.now) c.as_slice-2.ensures.value)
    c.from_vec-3.ensures

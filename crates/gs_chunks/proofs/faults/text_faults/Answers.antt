use Rattle.std.proofs.Common.{subst, sym, ◌∙◌}
use Rattle.gs_syntax.specs.Tokens.{AreTokens}
use Rattle.gs_chunks.specs.Files.{empty}
use Rattle.gs_chunks.proofs.Judging.{ok_then, faults_alone, file_faults, no_items}
use Rattle.gs_chunks.proofs.faults.text_faults.Goals as goal

pub returns-then-is_empty : goal.returns-then-is_empty
returns-then-is_empty c =
    let none = sym c.as_slice-tokens.ensures.value ∙ no_items c.as_slice-tokens.result.now c.if-is_empty.ensures in
    ok_then _ _ c.fault_alone.result c.fault_alone.ensures
    (λ v. faults_alone c.args.text.now 1 v.items (empty c.requires c.utf8.text (subst (AreTokens c.args.text.now) none c.in_ok-list.ensures)))

pub returns : goal.returns
returns c =
    let are = subst (AreTokens c.args.text.now) (sym c.as_slice-tokens.ensures.value) c.in_ok-list.ensures in
    file_faults _ c.args.text.now c.as_slice-tokens.result.now c.in_ok-draft.draft c.requires c.utf8.text are (sym c.is_empty.ensures ∙ c.if-is_empty.false) (c.some_comments.ensures c.args.text.now c.as_slice-tokens.result.now are) c.in_ok-draft.ensures

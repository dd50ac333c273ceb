use Rattle.std.proofs.Common.{arith, ap, ◌∙◌, drop}
use Rattle.std.proofs.lemmas.Str.Pattern.{strip_prefix_char, strip_suffix_char}
use Rattle.gs_chunks.specs.Docs.{without_return, without_space}
use Rattle.gs_chunks.proofs.Texts.{returned, spaced}
use Rattle.gs_chunks.proofs.docs.said.Goals as goal

pub returns : goal.returns
returns c =
    let rest = c.in_ok-comment.ensures.cases in
    let first = returned c.in_ok-comment.comment c.unwrap_or-comment.result c.strip_suffix.result (strip_suffix_char 13 _ _ c.strip_suffix.ensures.cases (omega arith)) c.unwrap_or-comment.ensures in
    let second = spaced c.unwrap_or-comment.result c.unwrap_or.result c.strip_prefix-2.result (strip_prefix_char 32 _ _ c.strip_prefix-2.ensures.cases (omega arith)) c.unwrap_or.ensures in
    second ∙ ap without_space (first ∙ ap without_return (rest.2 ∙ ap (λ n. drop n c.args.comment.now) rest.1.0))

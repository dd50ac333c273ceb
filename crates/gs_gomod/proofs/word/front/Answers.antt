use Rattle.std.proofs.Common.{ap, sym, ◌∙◌}
use Rattle.gs_gomod.specs.Reading.{plain_size}
use Rattle.gs_gomod.proofs.WordLemmas.{first_boundary, blank_small, small_quote, plain_boundary, plain_front}
use Rattle.gs_gomod.proofs.word.front.Goals as goal

pub split_at-requires : goal.split_at-requires
split_at-requires c =
    first_boundary c.args.rest.now _ _ c.utf8.rest (sym c.as_bytes-bytes.ensures.value ∙ c.in-Some.ensures.cases.0) (blank_small _ (sym c.is_blank.ensures ∙ c.if-is_blank.true))

pub split_at-requires-then-is_quote : goal.split_at-requires-then-is_quote
split_at-requires-then-is_quote c =
    first_boundary c.args.rest.now _ _ c.utf8.rest (sym c.as_bytes-bytes.ensures.value ∙ c.in-Some.ensures.cases.0) (small_quote _ (sym c.is_quote.ensures ∙ c.if-is_quote.true))

pub split_at-requires-2 : goal.split_at-requires-2
split_at-requires-2 c = plain_boundary c.args.rest.now _ (c.plain_len.ensures ∙ ap plain_size c.as_bytes-bytes.ensures.value)

pub returns-clause-leads : goal.returns-clause-leads
returns-clause-leads c =
    plain_front c.args.rest.now _ _ _ _ _ (sym c.as_bytes-bytes.ensures.value ∙ c.in-Some.ensures.cases.0)
    (sym c.is_blank.ensures ∙ c.if-is_blank.false) (sym c.begins_comment.ensures ∙ c.if-begins_comment.false) (sym c.is_quote.ensures ∙ c.if-is_quote.false)
    (c.plain_len.ensures ∙ ap plain_size c.as_bytes-bytes.ensures.value) c.split_at-2.ensures.front c.split_at-2.ensures.back

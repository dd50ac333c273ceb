use Rattle.std.proofs.Common.{ap, ◌∙◌, rules}
use Rattle.gs_gomod.specs.Reading.{quoted_size}
use Rattle.gs_gomod.proofs.WordLemmas.{quote_boundary, quote_next, quoted_closed, quoted_open}
use Rattle.gs_gomod.proofs.word.quoted.Goals as goal

pub split_at-requires : goal.split_at-requires
split_at-requires c = quote_boundary c.args.quote c.args.inside.now _ c.requires (c.quoted_len-len.ensures ∙ ap (quoted_size c.args.quote) c.as_bytes.ensures.value)

pub returns-then-is_empty-clause-leads : goal.returns-then-is_empty-clause-leads
returns-then-is_empty-clause-leads c =
    quoted_open c.args.quote c.args.inside.now _ _ (c.quoted_len-len.ensures ∙ ap (quoted_size c.args.quote) c.as_bytes.ensures.value) c.split_at.ensures.back (search (rules, c.if-is_empty.ensures))

pub split_at-requires-2 : goal.split_at-requires-2
split_at-requires-2 c =
    quote_next c.args.quote c.args.inside.now _ _ c.requires c.utf8.inside (c.quoted_len-len.ensures ∙ ap (quoted_size c.args.quote) c.as_bytes.ensures.value) c.split_at.ensures.back (search (rules, c.if-is_empty.ensures))

pub returns-clause-leads : goal.returns-clause-leads
returns-clause-leads c =
    quoted_closed c.args.quote c.args.inside.now _ _ _ _ (c.quoted_len-len.ensures ∙ ap (quoted_size c.args.quote) c.as_bytes.ensures.value) c.split_at.ensures.front c.split_at.ensures.back (search (rules, c.if-is_empty.ensures)) c.split_at-2.ensures.back

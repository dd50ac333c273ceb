use Rattle.std.proofs.Common.{sym, ◌∙◌, ap, length}
use Rattle.gs_scan.proofs.RuneLemmas.{plain_front, plain_none, empty_none}
use Rattle.gs_scan.proofs.rune.plain_at.Goals as goal

pub returns-in_default : goal.returns-in_default
returns-in_default c = empty_none c.args.inside.now (ap length (sym c.chars-chars.ensures.rest) ∙ c.in_default.ensures.steps.0.0)

pub returns-then-c-eq39 : goal.returns-then-c-eq39
returns-then-c-eq39 c = plain_none c.args.inside.now _ c.in-Some.c c.requires (sym c.chars-chars.ensures.rest ∙ c.in-Some.ensures.steps.0) (λ a b. a c.if-c-eq39.true)

pub returns-then-c-eq10 : goal.returns-then-c-eq10
returns-then-c-eq10 c = plain_none c.args.inside.now _ c.in-Some.c c.requires (sym c.chars-chars.ensures.rest ∙ c.in-Some.ensures.steps.0) (λ a b. b c.if-c-eq10.true)

pub returns : goal.returns
returns c = plain_front c.args.inside.now _ c.in-Some.c c.len_utf8.result c.requires (sym c.chars-chars.ensures.rest ∙ c.in-Some.ensures.steps.0) c.if-c-eq39.false c.if-c-eq10.false c.len_utf8.ensures.value

use Rattle.std.proofs.Common.{◌≡◌, get_or, sym, ◌∙◌, ap}
use Rattle.gs_scan.proofs.RuneLemmas.{rune_front, rune_none, rune_open, quote_boundary}
use Rattle.gs_scan.proofs.rune.rune_at.Goals as goal
use Rattle.gs_scan.proofs.rune.rune_at.Goals.{After-byte_at}

close : (c : After-byte_at) → get_or c.split_at.result.1.now c.in-Some.len 0 ≡ c.byte_at.result
close c = sym (c.byte_at.ensures ∙ ap (λ l. get_or l c.in-Some.len 0) c.as_bytes.ensures.value)

pub split_at-requires : goal.split_at-requires
split_at-requires c = quote_boundary c.args.rest.now c.utf8.rest c.requires

pub returns-in_default : goal.returns-in_default
returns-in_default c = rune_none c.args.rest.now c.split_at.result.1.now c.requires c.split_at.ensures.back c.in_default.ensures

pub returns-then-byte_at-eq39 : goal.returns-then-byte_at-eq39
returns-then-byte_at-eq39 c =
    rune_front c.args.rest.now c.split_at.result.1.now c.in-Some.code c.in-Some.len c.requires c.split_at.ensures.back c.in-Some.ensures
    (close (goal.at.returns-then-byte_at-eq39 c).After-byte_at ∙ c.if-byte_at-eq39.true)

pub returns-else-byte_at-eq39 : goal.returns-else-byte_at-eq39
returns-else-byte_at-eq39 c =
    rune_open c.args.rest.now c.split_at.result.1.now c.in-Some.code c.in-Some.len c.requires c.split_at.ensures.back c.in-Some.ensures
    (λ e. c.if-byte_at-eq39.false (sym (close (goal.at.returns-else-byte_at-eq39 c).After-byte_at) ∙ e))

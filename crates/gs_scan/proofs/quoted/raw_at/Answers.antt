use Rattle.std.proofs.Common.{◌∙◌}
use Rattle.gs_scan.proofs.RawLemmas.{raw_front, raw_open}
use Rattle.gs_scan.proofs.quoted.raw_at.Goals as goal

pub returns-then-len-inside : goal.returns-then-len-inside
returns-then-len-inside c = raw_open c.args.rest.now c.split_at.result.1.now c.len_until-len.result c.requires c.split_at.ensures.back c.len_until-len.ensures.size c.if-len-inside.true

pub returns : goal.returns
returns c =
    raw_front c.args.rest.now c.split_at.result.1.now c.split_at-2.result.0.now c.in_ok-value.value c.len_until-len.result
    c.requires c.split_at.ensures.back c.len_until-len.ensures.size c.if-len-inside.false c.split_at-2.ensures.front (c.in_ok-value.ensures ∙ c.in_ok-without_returns.ensures)

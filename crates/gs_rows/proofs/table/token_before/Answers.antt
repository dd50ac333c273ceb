use Rattle.std.proofs.Common.{sym, ◌∙◌}
use Rattle.gs_rows.proofs.Filling.{comes}
use Rattle.gs_rows.proofs.table.token_before.Goals as goal

pub returns : goal.returns
returns c =
    let first = rw c.unwrap.ensures at c.split_first.ensures.cases in
    comes c.args.left c.args.tokens.now c.unwrap.result.0.now c.unwrap.result.1.now c.requires (sym c.split_at.ensures.back ∙ first.0)

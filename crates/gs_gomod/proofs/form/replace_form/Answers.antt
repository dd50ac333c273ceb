use Rattle.std.proofs.Common.{◌∙◌}
use Rattle.gs_gomod.proofs.FormLemmas.{replace_at}
use Rattle.gs_gomod.proofs.form.replace_form.Goals as goal

pub returns-in-Some : goal.returns-in-Some
returns-in-Some c = c.sides.ensures ∙ replace_at c.args.words.now _ _ _ _ _ c.arrow_at.ensures.at c.split_at.ensures.front c.split_at.ensures.back c.in-Some.ensures.cases.0

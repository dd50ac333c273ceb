use Rattle.std.proofs.Common.{◌∙◌}
use Rattle.gs_gomod.proofs.FormLemmas.{three_words}
use Rattle.gs_gomod.proofs.form.form_of.Goals as goal

pub returns-in-len3-up : goal.returns-in-len3-up
returns-in-len3-up c = c.line_form-in-len3-up.ensures ∙ three_words _ c.args.words.now c.in-len3-up.len_at_least

use Rattle.std.proofs.Common.{◌∙◌}
use Rattle.gs_text.proofs.FileLemmas.{files-clone}
use Rattle.gs_text.proofs.files.Files.copy.Goals as goal

pub returns : goal.returns
returns c = files-clone c.self.inside.files.entries c.in_ok-clone.field-0.entries c.in_ok-clone.ensures.cases ∙ c.self.view_is

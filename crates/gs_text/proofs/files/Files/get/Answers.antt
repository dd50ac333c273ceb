use Rattle.std.proofs.Common.{sym, ap, ◌∙◌}
use Rattle.std.specs.FinMap.{get}
use Rattle.gs_text.specs.FileMap.{FileMap}
use Rattle.gs_text.proofs.FileLemmas.{get-files}
use Rattle.gs_text.proofs.files.Files.get.Goals as goal

pub returns : goal.returns
returns c =
    c.get.ensures.value
    ∙ sym (get-files c.self.inside.files c.args.path.now)
    ∙ ap (λ (m : FileMap). get m c.args.path.now) c.self.view_is

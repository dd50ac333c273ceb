use Rattle.std.proofs.Common.{ap, ◌∙◌}
use Rattle.std.specs.FinMap.{remove}
use Rattle.gs_text.specs.FileMap.{FileMap}
use Rattle.gs_text.proofs.FileLemmas.{files-remove}
use Rattle.gs_text.proofs.files.Files.remove.Goals as goal

pub returns : goal.returns
returns c =
    files-remove c.args.path.now c.self.inside.files c.remove.new.self c.remove.ensures.updates
    ∙ ap (λ (m : FileMap). remove m c.args.path.now) c.self.view_is

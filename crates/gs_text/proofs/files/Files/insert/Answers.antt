use Rattle.std.proofs.Common.{ap, ◌∙◌}
use Rattle.std.specs.Prelude.{string_bytes}
use Rattle.std.specs.FinMap.{insert}
use Rattle.gs_text.specs.FileMap.{FileMap}
use Rattle.gs_text.proofs.FileLemmas.{files-insert}
use Rattle.gs_text.proofs.files.Files.insert.Goals as goal

pub returns-in-Ok-clause-ok : goal.returns-in-Ok-clause-ok
returns-in-Ok-clause-ok c =
    files-insert (string_bytes c.args.path) c.self.inside.files c.insert.new.self c.args.bytes c.in-Ok.ensures.updates
    ∙ ap (λ (m : FileMap). insert m (string_bytes c.args.path) c.args.bytes) c.self.view_is

use Rattle.std.proofs.Common.{ap, drop, sym, ◌∙◌}
use Rattle.gs_syntax.specs.Tokens.{mark_size}
use Rattle.gs_scan.specs.Comments.{comments_from}
use Rattle.gs_scan.proofs.laws.one_comments.Goals as goal

pub returns : goal.returns
returns c = λ text a b h k.
    let front = mark_size text in
    h.2 ∙ ap (comments_from front (drop front text)) (c.one_cut.ensures (drop front text) h.0 k.0 h.1 k.1) ∙ sym k.2

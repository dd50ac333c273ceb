use Rattle.std.proofs.Common.{drop, refl}
use Rattle.gs_syntax.specs.Tokens.{mark_size}
use Rattle.gs_scan.specs.Comments.{comments_from}
use Rattle.gs_scan.proofs.laws.some_comments.Goals as goal

-- the cut that has the tokens has the comments
pub returns : goal.returns
returns c = λ text tokens h. (comments_from (mark_size text) (drop (mark_size text) text) h.0, (h.0, h.1, refl))

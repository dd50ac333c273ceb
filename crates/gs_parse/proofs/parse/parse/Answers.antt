use Rattle.gs_chunks.proofs.Judging.{ok_then}
use Rattle.gs_parse.proofs.Trees.{tree_alone}
use Rattle.gs_parse.proofs.parse.parse.Goals as goal

pub returns-in-Err : goal.returns-in-Err
returns-in-Err c = ok_then _ _ c.tree_alone.result c.tree_alone.ensures (λ tree. tree_alone c.args.bytes.now c.in-Err.code tree c.in-Err.ensures)

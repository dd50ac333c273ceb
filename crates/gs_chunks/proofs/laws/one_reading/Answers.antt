use Rattle.gs_chunks.proofs.OneTree.{reading_same}
use Rattle.gs_chunks.proofs.laws.one_reading.Goals as goal

pub returns : goal.returns
returns c = reading_same c.one_chunk.ensures c.one_list.ensures c.one_comments.ensures

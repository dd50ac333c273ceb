use Rattle.gs_syntax.proofs.ChunksCover.{chunks_follow}
use Rattle.gs_syntax.proofs.laws.chunks_follow.Goals as goal

pub returns : goal.returns
returns c = chunks_follow

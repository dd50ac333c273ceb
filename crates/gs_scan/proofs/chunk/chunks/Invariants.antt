use Rattle.std.proofs.Common.{◌≡◌, ◌≤◌, ◌++◌, drop}
use Rattle.gs_syntax.specs.Chunks.{chunks_from, chunks_of}
use Rattle.gs_scan.proofs.chunk.chunks.Given as goal

abbrev pub invariant-loop-token : goal.invariant-loop-token
invariant-loop-token l = record {
  so_far : l.chunks.items ++ chunks_from l.first l.at l.depth (drop l.token-index l.tokens) ≡ chunks_of l.tokens;
  place : l.at ≡ l.token-index;
  began : l.first ≤ l.at;
  shallow : l.depth ≤ l.at;
}

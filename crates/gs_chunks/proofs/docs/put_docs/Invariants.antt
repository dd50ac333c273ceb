use Rattle.std.proofs.Common.{◌≡◌, ◌++◌, drop, Some}
use Rattle.gs_chunks.specs.Walks.{docs_on}
use Rattle.gs_chunks.proofs.docs.put_docs.Given as goal

abbrev pub invariant-loop-start : goal.invariant-loop-start
invariant-loop-start l = l.docs.items ++ docs_on l.front (Some l.doc) (drop l.start-index l.starts) ≡ l.initial.docs.items ++ docs_on l.front (Some l.doc) l.starts

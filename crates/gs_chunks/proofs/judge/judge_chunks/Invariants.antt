use Rattle.std.proofs.Common.{drop}
use Rattle.gs_chunks.specs.Verdicts.{parts_of}
use Rattle.gs_chunks.proofs.Judging.{Leads}
use Rattle.gs_chunks.proofs.judge.judge_chunks.Given as goal

abbrev pub invariant-loop-place : goal.invariant-loop-place
invariant-loop-place g l = Leads g.L.Look.keeps (parts_of l.tokens l.place-items) (parts_of l.tokens (drop l.place-index l.place-items)) l.stage l.draft.chunks.items l.draft.starts.items l.draft.faults.items

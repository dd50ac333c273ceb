-- What the forms in memory stand for.
use Rattle.std.specs.Prelude.{◌≡◌, ℕ, ◌-◌, List, drop, min, length, Contains}
use Rattle.gs_outside.specs.declared.Pulled.{Pulled}
use Rattle.gs_outside.specs.declared.Pulled.TheVariants.{Got, Failed}
use Rattle.gs_outside.specs.declared.Pushed.{Pushed}
use Rattle.gs_outside.specs.declared.Pushed.TheVariants.{Took, Failed as PushFailed}
use Rattle.gs_outside.specs.declared.memory.MemSource.{MemSource}
use Rattle.gs_outside.specs.declared.memory.MemSink.{MemSink}
use Rattle.gs_outside.specs.Causes.{one_more}

-- the bytes that a source in memory has left, the calls that it had, those that fail, numbered from 0, and those that failed
abbrev pub left_of : MemSource → List ℕ
left_of s = drop s.given s.bytes.items

abbrev pub pulls_of : MemSource → ℕ
pulls_of s = s.calls.next

abbrev pub failing_pulls_of : MemSource → List ℕ
failing_pulls_of s = s.calls.failing.items

abbrev pub source_faults_of : MemSource → ℕ
source_faults_of s = s.faults

-- the bytes that a sink in memory holds, how many more it has room for, the calls that it had, those that fail, numbered
-- from 0, and those that failed
abbrev pub written_of : MemSink → List ℕ
written_of s = s.bytes.items

abbrev pub room_of : MemSink → ℕ
room_of s = s.room

abbrev pub pushes_of : MemSink → ℕ
pushes_of s = s.calls.next

abbrev pub failing_pushes_of : MemSink → List ℕ
failing_pushes_of s = s.calls.failing.items

abbrev pub sink_faults_of : MemSink → ℕ
sink_faults_of s = s.faults

-- a pull fails exactly where it is to fail, and else gives all that is left, or as much as the buffer holds
abbrev pub PullsAll : MemSource → List ℕ → Pulled → Type 0
PullsAll s buffer Failed = Contains (failing_pulls_of s) (pulls_of s)
PullsAll s buffer (Got n) = (Contains (failing_pulls_of s) (pulls_of s) → ⊥) × (n ≡ min (length buffer) (length (left_of s)))

-- a pull that fails is counted, and no other
abbrev pub CountsPull : MemSource → MemSource → Pulled → Type 0
CountsPull s t Failed = source_faults_of t ≡ one_more (source_faults_of s)
CountsPull s t (Got n) = source_faults_of t ≡ source_faults_of s

-- a push fails exactly where it is to fail or no room is left, and else takes as many bytes as there is room for
abbrev pub PushesAll : MemSink → MemSink → List ℕ → Pushed → Type 0
PushesAll s t piece PushFailed = ((room_of s ≡ 0 → ⊥) → Contains (failing_pushes_of s) (pushes_of s)) × (room_of t ≡ room_of s)
PushesAll s t piece (Took n) = (Contains (failing_pushes_of s) (pushes_of s) → ⊥) × (room_of s ≡ 0 → ⊥) × (n ≡ min (length piece) (room_of s)) × (room_of t ≡ room_of s - n)

-- a push that fails is counted, and no other
abbrev pub CountsPush : MemSink → MemSink → Pushed → Type 0
CountsPush s t PushFailed = sink_faults_of t ≡ one_more (sink_faults_of s)
CountsPush s t (Took n) = sink_faults_of t ≡ sink_faults_of s

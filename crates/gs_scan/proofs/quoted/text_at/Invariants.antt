use Rattle.std.proofs.Common.{◌-◌, length}
use Rattle.gs_scan.proofs.QuoteLemmas.{InText}
use Rattle.gs_scan.proofs.quoted.text_at.Given as goal

abbrev pub invariant-loop-item : goal.invariant-loop-item
invariant-loop-item l = InText l.rest l.value.items l.at

abbrev pub decreases-loop-item : goal.decreases-loop-item
decreases-loop-item l = length l.rest - l.at

use Rattle.gs_chunks.proofs.Judging.{ok_then, faults_alone}
use Rattle.gs_chunks.proofs.faults.faults.Goals as goal

pub returns-in-Err : goal.returns-in-Err
returns-in-Err c = ok_then _ _ c.fault_alone.result c.fault_alone.ensures (λ v. faults_alone c.args.bytes.now c.in-Err.code v.items c.in-Err.ensures)

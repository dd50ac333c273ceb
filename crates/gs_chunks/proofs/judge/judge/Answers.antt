use Rattle.std.proofs.Common.{arith, refl}
use Rattle.gs_chunks.proofs.Verdicts.{bad_judged}
use Rattle.gs_chunks.proofs.judge.judge.Goals as goal

pub returns-then-len-before : goal.returns-then-len-before
returns-then-len-before g c =
    bad_judged _ _ _ _ _ c.args.tokens.now refl refl c.in_ok-put_bad_tokens.ensures (omega (arith, c.len.ensures, c.len-before.ensures, c.if-len-before.true)) c.passed.ensures

use Rattle.std.proofs.Common.{refl}
use Rattle.gs_frames.proofs.Scanning.{after_field, at_the_end, at_broken, at_last, behind_within}
use Rattle.gs_frames.proofs.header.read_header.Goals as goal

pub overflow_sub-result : goal.overflow_sub-result
overflow_sub-result c = behind_within c.args.bytes.now c.loop-line.rest.now c.in-Some.line.now c.in-Some.behind.now c.loop-line.length c.loop-line.invariant c.in-Some.ensures

pub returns-in-End : goal.returns-in-End
returns-in-End c = at_the_end c.args.bytes.now c.loop-line.rest.now c.in-Some.line.now c.in-Some.behind.now c.loop-line.length c.in-End.number _ c.loop-line.invariant c.in-Some.ensures c.in-End.ensures refl

pub returns-in-Broken : goal.returns-in-Broken
returns-in-Broken c = at_broken c.args.bytes.now c.loop-line.rest.now c.in-Some.line.now c.in-Some.behind.now c.loop-line.length c.loop-line.invariant c.in-Some.ensures c.in-Broken.ensures

pub loop-line-preserved : goal.loop-line-preserved
loop-line-preserved c = after_field c.args.bytes.now c.loop-line.rest.now c.in-Some.line.now c.in-Some.behind.now c.loop-line.length c.in-Next.now c.loop-line.invariant c.in-Some.ensures c.in-Next.ensures

pub returns : goal.returns
returns c = at_last c.args.bytes.now c.loop-line.rest.now c.loop-line.length c.loop-line.invariant c.in_default.ensures

use Rattle.std.proofs.Common.{◌+◌, ◌*◌}
use Rattle.gs_build.proofs.knot.+tie.Given as goal

abbrev pub decreases-build : goal.decreases-build
decreases-build l = 2 * l.levels

abbrev pub decreases-tie : goal.decreases-tie
decreases-tie l = 2 * l.less + 1

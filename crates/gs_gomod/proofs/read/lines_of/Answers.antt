use Rattle.std.proofs.Common.{ap, ◌∙◌, sym, length, subst, ◌≤◌}
use Rattle.std.proofs.lemmas.List.{length-map}
use Rattle.std.proofs.lemmas.Iterator.Consumers.{map_from_collect}
use Rattle.std.proofs.lemmas.Iterator.Splits.{YieldsList-from_lines}
use Rattle.gs_gomod.proofs.LineLemmas.{few_of}
use Rattle.gs_gomod.proofs.read.lines_of.Goals as goal

pub returns-clause-lines : goal.returns-clause-lines
returns-clause-lines c = map_from_collect _ c.collect.ensures.ran (YieldsList-from_lines c.args.text.now c.lines.ensures.rest)

pub returns-clause-few : goal.returns-clause-few
returns-clause-few c = few_of c.args.text.now _ (map_from_collect _ c.collect.ensures.ran (YieldsList-from_lines c.args.text.now c.lines.ensures.rest))

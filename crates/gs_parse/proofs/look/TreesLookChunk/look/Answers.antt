use Rattle.gs_chunks.proofs.Verdicts.{deep_look}
use Rattle.gs_parse.proofs.Trees.{whole_tree}
use Rattle.gs_parse.proofs.look.TreesLookChunk.look.Goals as goal

pub returns-in-TooDeep : goal.returns-in-TooDeep
returns-in-TooDeep c = deep_look whole_tree c.args.tokens.now c.in-TooDeep.ensures

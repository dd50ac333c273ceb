-- The tree of a file that is not read.
use Rattle.std.specs.Prelude.{◌≡◌, ℕ, []}
use Rattle.gs_grammar.specs.declared.trees.FileTree.{FileTree}
use Rattle.gs_chunks.specs.Verdicts.{at_first}

-- no chunks, no docs, and one fault at the start
pub record IsAlone (code : ℕ) (tree : FileTree) : Type 0 where
  pub chunks : tree.chunks ≡ []
  pub docs : tree.docs ≡ []
  pub faults : tree.faults ≡ at_first code []

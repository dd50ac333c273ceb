-- What an input is answered.
use Rattle.std.specs.Prelude.{◌≡◌, ◌≢◌, ◌↔◌, ℕ, List, [], Option, Some, None, IsTrue, codes}
use Rattle.gs_syntax.specs.declared.token.Token.{Token}
use Rattle.gs_grammar.specs.declared.trees.FileTree.{FileTree}
use Rattle.gs_chunks.specs.Files.{IsFileTree}
use Rattle.gs_rules.specs.declared.fault.Fault.{Fault}
use Rattle.gs_rules.specs.Faults.{form_faults, right_faults}
use Rattle.gs_rules.specs.Files.{declarations_of, lookup_of}
use Rattle.gs_rules.specs.Lines.{output_of}
use Rattle.goserve.specs.declared.answering.Report.{Report}
use Rattle.goserve.specs.FirstForm.{IsFirstForm}

-- the name under which the standard input is checked
abbrev pub stdin : List ℕ
stdin = codes "stdin.go"

-- the file has a tree, and none of the faults G01 to G05
abbrev pub IsWellFormed : List ℕ → Type 0
IsWellFormed input = (tree : FileTree) × IsFileTree input tree × (tree.faults ≡ [])

-- the faults of an input: those of its form, G01 to G05; where there is none and it is in the first form, those of its right sides
pub data AreFaults (input : List ℕ) : List Fault → Type 0 where
  of_form : (tree : FileTree) → IsFileTree input tree → tree.faults ≢ [] → AreFaults input (form_faults stdin tree.faults)
  of_rights : (tokens : List Token) → IsWellFormed input → IsFirstForm input tokens → AreFaults input (right_faults stdin (lookup_of (declarations_of tokens)) (declarations_of tokens))

-- the input has none of the faults G01 to G05, and no tokens with which it is in the first form
pub record IsOther (input : List ℕ) : Type 0 where
  pub form : IsWellFormed input
  pub other : (tokens : List Token) → IsFirstForm input tokens → ⊥

pub record IsReport (input : List ℕ) (r : Report) : Type 0 where
  pub faults : List Fault
  pub are : AreFaults input faults
  pub output : r.output.items ≡ output_of input faults
  pub clean : IsTrue r.clean ↔ faults ≡ []

abbrev pub HasAnswered : List ℕ → Option Report → Type 0
HasAnswered input None = IsOther input
HasAnswered input (Some r) = IsReport input r

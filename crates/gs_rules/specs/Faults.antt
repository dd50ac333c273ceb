-- The faults of a file: of its form, and of the right sides of its constants and variables.
use Rattle.std.specs.Prelude.{ℕ, Bool, ◌==◌, if◌then◌else◌, List, [], ◌∷◌, ◌++◌, codes, map, Option}
use Rattle.std.specs.Option.{is_some}
use Rattle.gs_syntax.specs.declared.token.Span.{Span}
use Rattle.gs_rules.specs.declared.fault.Fault.{Fault}
use Rattle.gs_rules.specs.Trees.{Declaration, Right, Named, Number}

-- what is said of a fault of a file's form
abbrev pub form_text : ℕ → List ℕ
form_text code = if code == 1 then codes "syntax error" else
    if code == 2 then codes "bad token" else
    if code == 3 then codes "file is not UTF-8" else
    if code == 4 then codes "nesting above 200" else
    if code == 5 then codes "file above 4194304 bytes" else []

-- G01 to G05: a code and its place, as a fault of the file
abbrev pub form_fault : List ℕ → ℕ × Span → Fault
form_fault file fault = record { file = file; span = fault.1; code = fault.0; text = form_text fault.0 }

abbrev pub form_faults : List ℕ → List (ℕ × Span) → List Fault
form_faults file faults = map (form_fault file) faults

abbrev pub undeclared_text : List ℕ → List ℕ
undeclared_text name = codes "undeclared name: " ++ name

-- G10
abbrev pub undeclared_name : List ℕ → Span → List ℕ → Fault
undeclared_name file span name = record { file = file; span = span; code = 10; text = undeclared_text name }

-- G10 at a name on a right side that nothing declares (Go specification, "Declarations and scope")
abbrev pub right_fault : List ℕ → (List ℕ → Option Bool) → Right → List Fault
right_fault file lookup Number = []
right_fault file lookup (Named name span) = if is_some (lookup name) then [] else undeclared_name file span name ∷ []

abbrev pub right_faults : List ℕ → (List ℕ → Option Bool) → List Declaration → List Fault
right_faults file lookup [] = []
right_faults file lookup (d ∷ ds) = right_fault file lookup d.right ++ right_faults file lookup ds

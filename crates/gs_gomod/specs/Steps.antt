-- What is known while a go.mod is read.
use Rattle.std.specs.Prelude.{◌≡◌, ℕ, ◌+◌, false, not, if◌then◌else◌, List, [], Option, Some, None, Result, Ok, Err}
use Rattle.std.specs.Borrow.{Bor}
use Rattle.std.specs.Option.{is_some, option_map}
use Rattle.gs_gomod.specs.declared.read.Mod.{Mod}
use Rattle.gs_gomod.specs.declared.read.ModFault.{ModFault}
use Rattle.gs_gomod.specs.declared.read.ModFault.TheVariants.{Line, NoMemory}
use Rattle.gs_gomod.specs.declared.read.Found.{Found}
use Rattle.gs_gomod.specs.Words.{words}
use Rattle.gs_gomod.specs.Shown.{seen}
use Rattle.gs_gomod.specs.Forms.{is_wrong, module_in, form_of, block_behind, put, first_wrong, stays_open, module_of, put_all, forms_in, or_else}
use Rattle.gs_gomod.specs.Files.{Says, bad_line}

-- what a text is answered
abbrev pub HasReadText : List ℕ → Result Mod ModFault → Type 0
HasReadText text (Ok m) = Says text m
HasReadText text (Err (Line n)) = bad_line text ≡ Some n
HasReadText text (Err NoMemory) = Unit {0}

-- what lines say one behind the other
pub record Finds (ls : List (List ℕ)) (f : Found) : Type 0 where
  pub path : option_map (λ (x : Bor (List ℕ)). x.now) f.path ≡ module_of (forms_in None ls)
  pub wrong : f.wrong ≡ first_wrong 1 false (forms_in None ls)
  pub unclosed : is_some f.block ≡ stays_open None ls
  pub replaced : f.replaced.entries ≡ put_all [] (forms_in None ls)

-- the first bad line, from what the lines say, where the last has this number
abbrev pub bad_in : Found → ℕ → Option ℕ
bad_in f last =
    if not (is_some f.path) then Some 1
    else or_else f.wrong (if is_some f.block then Some last else None)

-- what is answered to what the lines say
abbrev pub Concludes : Found → ℕ → Result Mod ModFault → Type 0
Concludes f last (Ok m) = (bad_in f last ≡ None) × (option_map (λ (x : Bor (List ℕ)). x.now) f.path ≡ Some m.module) × (m.replaced ≡ f.replaced.entries)
Concludes f last (Err (Line n)) = bad_in f last ≡ Some n
Concludes f last (Err NoMemory) = Unit {0}

-- one line more
pub record HasReadLine (f g : Found) (number : ℕ) (line : List ℕ) : Type 0 where
  pub path : option_map (λ (x : Bor (List ℕ)). x.now) g.path ≡ or_else (option_map (λ (x : Bor (List ℕ)). x.now) f.path) (module_in (form_of (option_map seen f.block) (words line)))
  pub wrong : g.wrong ≡ or_else f.wrong (if is_wrong (is_some f.path) (form_of (option_map seen f.block) (words line)) then Some number else None)
  pub block : option_map seen g.block ≡ block_behind (option_map seen f.block) (form_of (option_map seen f.block) (words line))
  pub replaced : g.replaced.entries ≡ put f.replaced.entries (form_of (option_map seen f.block) (words line))

-- what was found before line n and what the rest says are together what all lines say
pub record Leads (f : Found) (n : ℕ) (rest all : List (List ℕ)) : Type 0 where
  pub path : or_else (option_map (λ (x : Bor (List ℕ)). x.now) f.path) (module_of (forms_in (option_map seen f.block) rest)) ≡ module_of (forms_in None all)
  pub wrong : or_else f.wrong (first_wrong n (is_some f.path) (forms_in (option_map seen f.block) rest)) ≡ first_wrong 1 false (forms_in None all)
  pub unclosed : stays_open (option_map seen f.block) rest ≡ stays_open None all
  pub replaced : put_all f.replaced.entries (forms_in (option_map seen f.block) rest) ≡ put_all [] (forms_in None all)

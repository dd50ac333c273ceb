-- What a go.mod says, or its first bad line.
use Rattle.std.specs.Prelude.{◌≡◌, ℕ, false, not, if◌then◌else◌, List, [], length, Option, Some, None, Result, Ok, Err, IsUtf8, ◌⊎◌}
use Rattle.std.specs.Option.{is_some}
use Rattle.std.specs.Str.Lines.{lines}
use Rattle.gs_gomod.specs.declared.read.Mod.{Mod}
use Rattle.gs_gomod.specs.declared.read.ModFault.{ModFault}
use Rattle.gs_gomod.specs.declared.read.ModFault.TheVariants.{Line, NoMemory}
use Rattle.gs_gomod.specs.Forms.{first_wrong, stays_open, module_of, put_all, forms_of, or_else}

-- the last line is bad where a block is open behind it
abbrev pub unclosed_line : List ℕ → Option ℕ
unclosed_line text = if stays_open None (lines text) then Some (length (lines text)) else None

-- the first bad line, which is line 1 where no module stands
abbrev pub bad_line : List ℕ → Option ℕ
bad_line text =
    if not (is_some (module_of (forms_of text))) then Some 1
    else or_else (first_wrong 1 false (forms_of text)) (unclosed_line text)

-- a text without a bad line says this
pub record Says (text : List ℕ) (m : Mod) : Type 0 where
  pub sound : bad_line text ≡ None
  pub path : module_of (forms_of text) ≡ Some m.module
  pub replaced : m.replaced ≡ put_all [] (forms_of text)

-- bytes that are not UTF-8 are bad from line 1 on
abbrev pub HasRead : List ℕ → Result Mod ModFault → Type 0
HasRead bytes (Ok m) = IsUtf8 bytes × Says bytes m
HasRead bytes (Err (Line n)) = (IsUtf8 bytes × (bad_line bytes ≡ Some n)) ⊎ ((IsUtf8 bytes → ⊥) × (n ≡ 1))
HasRead bytes (Err NoMemory) = Unit {0}

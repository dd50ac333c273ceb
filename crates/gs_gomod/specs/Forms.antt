-- What the lines of a go.mod say (go.mod reference, "Grammar", "module directive", "replace directive").
use Rattle.std.specs.Prelude.{ℕ, ◌+◌, Bool, true, false, not, ◌||◌, if◌then◌else◌, List, [], ◌∷◌, take, drop, codes, Option, Some, None}
use Rattle.std.specs.Str.{bytes_eq}
use Rattle.std.specs.Str.Lines.{lines}
use Rattle.std.specs.Cmp.Lexicographic.{slice_cmp}
use Rattle.std.specs.Ordering.{nat_cmp}
use Rattle.std.specs.BTreeMap.{insert_entry}
use Rattle.std.specs.Option.{is_some}
use Rattle.std.specs.List.{prefix_len}
use Rattle.gs_gomod.specs.Words.{Word, Plain, Quoted, Unclosed, words}

-- this word, not in quotes
abbrev pub is_word : List ℕ → Word → Bool
is_word text (Plain w) = bytes_eq w text
is_word text (Quoted w) = false
is_word text Unclosed = false

-- the text of a path or a version: any word but `=>`, and no unclosed quote
abbrev pub text_of : Word → Option (List ℕ)
text_of (Plain w) = if bytes_eq w (codes "=>") then None else Some w
text_of (Quoted w) = Some w
text_of Unclosed = None

-- what a line says
pub data Form : Type 0 where
  empty : Form
  opens : Word → Form  -- `verb (`
  closes : Form  -- `)`
  a_module : List ℕ → Form  -- the module's path
  a_replace : List ℕ → List ℕ → Form  -- a path, and what replaces it
  passed : Form  -- a line of another verb
  bad : Form

abbrev pub is_arrow : Word → Bool
is_arrow w = is_word (codes "=>") w

-- a path or a version
abbrev pub is_name : Word → Bool
is_name w = is_some (text_of w)

-- the path on one side of `=>`, behind which a version may stand
abbrev pub side : List Word → Option (List ℕ)
side [] = None
side (p ∷ []) = text_of p
side (p ∷ v ∷ []) = if is_name v then text_of p else None
side (p ∷ v ∷ w ∷ ws) = None

-- a path, and what replaces it
abbrev pub paths : Option (List ℕ) → Option (List ℕ) → Form
paths None t = bad
paths (Some p) None = bad
paths (Some p) (Some t) = a_replace p t

-- how many words stand before the first `=>`
abbrev pub arrow_at : List Word → ℕ
arrow_at ws = prefix_len (λ w. not (is_arrow w)) ws

-- behind `replace`: one side, `=>`, the other side
abbrev pub replace_form : List Word → Form
replace_form ws = paths (side (take (arrow_at ws) ws)) (side (drop (arrow_at ws + 1) ws))

-- the path of a module, which `=>` may be too
abbrev pub module_path : Word → Form
module_path (Plain w) = a_module w
module_path (Quoted w) = a_module w
module_path Unclosed = bad

-- behind `module`: one word
abbrev pub module_form : List Word → Form
module_form (w ∷ []) = module_path w
module_form _ = bad

-- a verb and the words behind it
abbrev pub entry_form : Word → List Word → Form
entry_form verb ws =
    if is_word (codes "module") verb then module_form ws
    else if is_word (codes "replace") verb then replace_form ws
    else passed

-- a `)` closes the block that is open
abbrev pub closing : Option Word → Form
closing None = bad
closing (Some verb) = closes

-- a `verb (` opens a block where none is open
abbrev pub opening : Option Word → Word → Form
opening None verb = opens verb
opening (Some outer) verb = bad

-- the words of a line; in a block they stand behind its verb
abbrev pub words_form : Option Word → List Word → Form
words_form block [] = empty
words_form None (verb ∷ ws) = entry_form verb ws
words_form (Some verb) (w ∷ ws) = entry_form verb (w ∷ ws)

abbrev pub form_of : Option Word → List Word → Form
form_of block [] = empty
form_of block (w ∷ []) = if is_word (codes ")") w then closing block else words_form block (w ∷ [])
form_of block (w ∷ x ∷ []) = if is_word (codes "(") x then opening block w else words_form block (w ∷ x ∷ [])
form_of block (w ∷ x ∷ y ∷ ws) = words_form block (w ∷ x ∷ y ∷ ws)

-- the block that is open behind a line
abbrev pub block_behind : Option Word → Form → Option Word
block_behind block (opens verb) = Some verb
block_behind block closes = None
block_behind block empty = block
block_behind block (a_module p) = block
block_behind block (a_replace p t) = block
block_behind block passed = block
block_behind block bad = block

-- what lines say, one behind the other, where a block is open before them
abbrev pub forms_in : Option Word → List (List ℕ) → List Form
forms_in block [] = []
forms_in block (l ∷ ls) = form_of block (words l) ∷ forms_in (block_behind block (form_of block (words l))) ls

-- a block is open behind the last line
abbrev pub stays_open : Option Word → List (List ℕ) → Bool
stays_open block [] = is_some block
stays_open block (l ∷ ls) = stays_open (block_behind block (form_of block (words l))) ls

abbrev pub is_module : Form → Bool
is_module (a_module p) = true
is_module empty = false
is_module (opens verb) = false
is_module closes = false
is_module (a_replace p t) = false
is_module passed = false
is_module bad = false

-- a line of no form, or a module where one stands already
abbrev pub is_wrong : Bool → Form → Bool
is_wrong named bad = true
is_wrong named (a_module p) = named
is_wrong named empty = false
is_wrong named (opens verb) = false
is_wrong named closes = false
is_wrong named (a_replace p t) = false
is_wrong named passed = false

-- the number of the first wrong line, where the first has the number n
abbrev pub first_wrong : ℕ → Bool → List Form → Option ℕ
first_wrong n named [] = None
first_wrong n named (f ∷ fs) = if is_wrong named f then Some n else first_wrong (n + 1) (named || is_module f) fs

abbrev pub or_else : {A : Type 0} → Option A → Option A → Option A
or_else None b = b
or_else (Some x) b = Some x

abbrev pub module_in : Form → Option (List ℕ)
module_in (a_module p) = Some p
module_in empty = None
module_in (opens verb) = None
module_in closes = None
module_in (a_replace p t) = None
module_in passed = None
module_in bad = None

-- the path of the first module
abbrev pub module_of : List Form → Option (List ℕ)
module_of [] = None
module_of (f ∷ fs) = or_else (module_in f) (module_of fs)

abbrev pub Replaced : Type 0
Replaced = List (List ℕ × List ℕ)

-- a replacement takes the place of an earlier one of its path
abbrev pub put : Replaced → Form → Replaced
put rs (a_replace p t) = insert_entry (slice_cmp nat_cmp) rs p t
put rs empty = rs
put rs (opens verb) = rs
put rs closes = rs
put rs (a_module p) = rs
put rs passed = rs
put rs bad = rs

-- the replacements, in byte order of their paths, behind these
abbrev pub put_all : Replaced → List Form → Replaced
put_all rs [] = rs
put_all rs (f ∷ fs) = put_all (put rs f) fs

-- what the lines of a text say; LF ends a line, a CR before it is dropped, and none follows the last LF
unfoldable pub forms_of : List ℕ → List Form
forms_of text = forms_in None (lines text)

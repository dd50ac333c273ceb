-- What a look into the table of lines gives.
use Rattle.std.proofs.Common.{◌≡◌, ◌<◌, ◌≤◌, List, [], ℕ, length, ap, sym, ◌∙◌, arith, ⊎_elim}
use Rattle.std.specs.Prelude.{slice_get, Some, None}
use Rattle.std.proofs.lemmas.List.{drop_all, get_or_past}
use Rattle.std.proofs.lemmas.Option.{slice_get_within, get_or_from_slice_get, slice_get_cases}
use Rattle.std.proofs.lemmas.Str.{chars-nil}
use Rattle.gs_text.specs.declared.position.PosUnit.{PosUnit}
use Rattle.gs_text.specs.declared.position.Pos.{Pos}
use Rattle.gs_text.specs.LineEnds.{line_starts, first_line}
use Rattle.gs_text.specs.Lines.{line_start, line_from}
use Rattle.gs_text.specs.Positions.{bytes_within, offset_of}
use Rattle.gs_text.proofs.Fits.{fit_len}

-- a line that is there, and where it begins
pub line_read : (starts text : List ℕ) (line start : ℕ) → starts ≡ line_starts text → slice_get starts line ≡ Some start → (line < length (line_starts text)) × (start ≡ line_start text line)
line_read starts text line start are read =
    let there = ap (λ l. slice_get l line) (sym are) ∙ read in
    (slice_get_within (line_starts text) line start there, sym (get_or_from_slice_get (line_starts text) line start (length text) there))

pub line_past : (starts text : List ℕ) (line : ℕ) → starts ≡ line_starts text → slice_get starts line ≡ None → length (line_starts text) ≤ line
line_past starts text line are none =
    ⊎_elim
    (λ there. absurd (cc (there.2, none, are)))
    (λ past. past.0)
    ((slice_get_cases (line_starts text) line).1)

-- a line past the last is the end of the text
pub offset_past : (unit : PosUnit) (text : List ℕ) (p : Pos) → length (line_starts text) ≤ p.line → offset_of unit text p ≡ length text
offset_past unit text p past =
    let at_end : line_start text p.line ≡ length text = get_or_past (line_starts text) p.line (length text) past in
    let nothing : line_from text (line_start text p.line) ≡ [] = ap first_line (drop_all (line_start text p.line) text (omega (arith, at_end))) in
    let none : bytes_within unit (line_from text (line_start text p.line)) p.character ≡ 0 = ap (λ l. bytes_within unit l p.character) nothing ∙ ap (fit_len unit p.character) chars-nil in
    omega (arith, at_end, none)

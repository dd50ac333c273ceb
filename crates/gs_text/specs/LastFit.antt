use Rattle.std.specs.Prelude.{ℕ, ◌+◌, ◌≤◌, List, length}
use Rattle.std.specs.Str.{IsCharBoundary}
use Rattle.gs_text.specs.declared.position.PosUnit.{PosUnit}
use Rattle.gs_text.specs.Lines.{line_from}
use Rattle.gs_text.specs.Units.{units}
use Rattle.gs_text.specs.Positions.{line_before}

-- of the places of a line, from its beginning to its end, at which a character begins or the line ends, an offset is the last one before which no more than so many units of the line stand
pub record IsLastFit (unit : PosUnit) (text : List ℕ) (start most offset : ℕ) : Type 0 where
  pub from : start ≤ offset
  pub upto : offset ≤ start + length (line_from text start)
  pub whole : IsCharBoundary text offset
  pub fits : units unit (line_before text start offset) ≤ most
  pub last : (at : ℕ) → IsCharBoundary text at → at ≤ start + length (line_from text start) → units unit (line_before text start at) ≤ most → at ≤ offset

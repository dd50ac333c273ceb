use Rattle.std.specs.Prelude.{◌≡◌, ◌<◌, ◌≤◌, ◌⊎◌}
use Rattle.gs_text.specs.declared.position.Pos.{Pos}

-- a position is another one or stands before it: on an earlier line, or on the same line with no more units
abbrev pub IsUpTo : Pos → Pos → Type 0
IsUpTo a b = (a.line < b.line) ⊎ ((a.line ≡ b.line) × (a.character ≤ b.character))

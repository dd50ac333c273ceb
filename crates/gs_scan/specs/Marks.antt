-- The operators, by their first three bytes.
use Rattle.std.specs.Prelude.{ℕ, ◌==◌, if◌then◌else◌, Option, Some, None}
use Rattle.gs_syntax.specs.declared.token.Operator.{Operator}
use Rattle.gs_syntax.specs.declared.token.Operator.TheVariants.{Increment, PlusAssign, Plus, Decrement, MinusAssign, Minus, StarAssign, Star, SlashAssign, Slash, PercentAssign, Percent, AndNotAssign, AndNot, AndAssign, LogicalAnd, And, OrAssign, LogicalOr, Or, CaretAssign, Caret, ShiftLeftAssign, ShiftLeft, LessEqual, Arrow, Less, ShiftRightAssign, ShiftRight, GreaterEqual, Greater, Equal, Assign, NotEqual, Not, Define, Colon, Ellipsis, Dot, LeftParen, RightParen, LeftBracket, RightBracket, LeftBrace, RightBrace, Comma, Semicolon}

-- the longest operator that the bytes begin with, and its length
abbrev pub operator_at : ℕ → ℕ → ℕ → Option (Operator × ℕ)
operator_at first second third =
    if first == 43 then (if second == 43 then Some (Increment, 2) else if second == 61 then Some (PlusAssign, 2) else Some (Plus, 1)) else
    if first == 45 then (if second == 45 then Some (Decrement, 2) else if second == 61 then Some (MinusAssign, 2) else Some (Minus, 1)) else
    if first == 42 then (if second == 61 then Some (StarAssign, 2) else Some (Star, 1)) else
    if first == 47 then (if second == 61 then Some (SlashAssign, 2) else Some (Slash, 1)) else
    if first == 37 then (if second == 61 then Some (PercentAssign, 2) else Some (Percent, 1)) else
    if first == 38 then (if second == 94 then (if third == 61 then Some (AndNotAssign, 3) else Some (AndNot, 2)) else if second == 61 then Some (AndAssign, 2) else if second == 38 then Some (LogicalAnd, 2) else Some (And, 1)) else
    if first == 124 then (if second == 61 then Some (OrAssign, 2) else if second == 124 then Some (LogicalOr, 2) else Some (Or, 1)) else
    if first == 94 then (if second == 61 then Some (CaretAssign, 2) else Some (Caret, 1)) else
    if first == 60 then (if second == 60 then (if third == 61 then Some (ShiftLeftAssign, 3) else Some (ShiftLeft, 2)) else if second == 61 then Some (LessEqual, 2) else if second == 45 then Some (Arrow, 2) else Some (Less, 1)) else
    if first == 62 then (if second == 62 then (if third == 61 then Some (ShiftRightAssign, 3) else Some (ShiftRight, 2)) else if second == 61 then Some (GreaterEqual, 2) else Some (Greater, 1)) else
    if first == 61 then (if second == 61 then Some (Equal, 2) else Some (Assign, 1)) else
    if first == 33 then (if second == 61 then Some (NotEqual, 2) else Some (Not, 1)) else
    if first == 58 then (if second == 61 then Some (Define, 2) else Some (Colon, 1)) else
    if first == 46 then (if second == 46 then (if third == 46 then Some (Ellipsis, 3) else Some (Dot, 1)) else Some (Dot, 1)) else
    if first == 40 then (Some (LeftParen, 1)) else
    if first == 41 then (Some (RightParen, 1)) else
    if first == 91 then (Some (LeftBracket, 1)) else
    if first == 93 then (Some (RightBracket, 1)) else
    if first == 123 then (Some (LeftBrace, 1)) else
    if first == 125 then (Some (RightBrace, 1)) else
    if first == 44 then (Some (Comma, 1)) else
    if first == 59 then (Some (Semicolon, 1)) else
    None

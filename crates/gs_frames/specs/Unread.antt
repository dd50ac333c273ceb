-- What a Framer has not given out yet.
use Rattle.std.specs.Prelude.{ℕ, List, [], Vec, Option, Some, None}
use Rattle.std.specs.declared.alloc.Global.{Global}

-- the bytes that were fed and are not read, and the place of the first of them in the stream: how many came before
pub record Unread : Type 0 where
  pub at : ℕ
  pub rest : List ℕ

-- nothing was fed
abbrev pub at_start : Unread
at_start = record { at = 0; rest = [] }

-- the bytes of a buffer, where there is one
abbrev pub held : Option (Vec ℕ Global) → List ℕ
held None = []
held (Some buffer) = buffer.items

use Rattle.std.specs.Prelude.{ℕ, List}

-- the lines of a text: the offsets at which they begin, and the one at which the last of them ends
pub record TextLines : Type 0 where
  pub starts : List ℕ
  pub length : ℕ

-- A call that succeeds has put this text behind what was written.
use Rattle.std.specs.Prelude.{◌≡◌, ℕ, List, ◌++◌, Result, IfOk, String, string_bytes}
use Rattle.std.specs.declared.alloc.Global.{Global}

abbrev pub Adds : {A E : Type 0} → String Global → String Global → Result A E → List ℕ → Type 0
Adds before after answer text = IfOk answer (λ _. string_bytes after ≡ string_bytes before ++ text)

-- What is said of a name of the language.
use Rattle.gs_terms.specs.declared.symbol.Symbol.{Symbol}
use Rattle.gs_terms.specs.declared.sig.Sig.{Sig}
use Rattle.gs_ask.specs.Ask.{Ask, Lookup}

-- its description; that its package does not declare it; or that its package does not declare it and is broken
pub data Reply : Type 0 where
  known : Sig → Reply
  absent : Reply
  broken : Reply

-- the descriptions that typing looks up; None where a name isn't described yet
abbrev pub Sigs : Type 0
Sigs = Lookup Symbol Reply

-- a rule of typing with notes N, which keeps L and answers A
abbrev pub Rule : Type 0 → Type 0 → Type 0 → Type 0
Rule N L A = Ask Symbol Reply N L A

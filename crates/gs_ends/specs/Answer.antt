-- What is answered at a place: `Stands t s r d` says that the tree t stands at the front of the tokens s, that r is what
-- follows it, and that it nests d deep.
use Rattle.std.specs.Prelude.{ℕ, ◌<◌, ◌≤◌, List, drop, length}
use Rattle.gs_syntax.specs.declared.token.Token.{Token}
use Rattle.gs_ends.specs.declared.end.End.{End}
use Rattle.gs_ends.specs.declared.end.End.TheVariants as end
use Rattle.gs_ends.specs.declared.parsed.Parsed.{Parsed}
use Rattle.gs_ends.specs.declared.parsed.Parsed.TheVariants as parsed

-- the deepest nesting that a tree may have
abbrev pub limit : ℕ
limit = 200

-- the tree stands at the place, ends before `end`, and nests as deep as it may
abbrev pub IsTree : {T : Type 0} → (T → List Token → List Token → ℕ → Type 0) → List Token → ℕ → T → ℕ → Type 0
IsTree Stands tokens at t end = (d : ℕ) × Stands t (drop at tokens) (drop end tokens) d × (at ≤ end) × (end ≤ length tokens) × (d ≤ limit)

-- a tree stands at the place, and nests deeper than it may
abbrev pub IsTooDeep : {T : Type 0} → (T → List Token → List Token → ℕ → Type 0) → List Token → ℕ → Type 0
IsTooDeep {T = T} Stands tokens at = (t : T) × (r : List Token) × (d : ℕ) × Stands t (drop at tokens) r d × (limit < d)

-- no tree stands at the place
abbrev pub Lacks : {T : Type 0} → (T → List Token → List Token → ℕ → Type 0) → List Token → ℕ → Type 0
Lacks {T = T} Stands tokens at = (t : T) (r : List Token) (d : ℕ) → Stands t (drop at tokens) r d → ⊥

-- where the tree of a place ends
abbrev pub IsEnd : {T : Type 0} → (T → List Token → List Token → ℕ → Type 0) → List Token → ℕ → End → Type 0
IsEnd {T = T} Stands tokens at (end.At e) = (t : T) × IsTree Stands tokens at t e
IsEnd Stands tokens at end.None = Lacks Stands tokens at
IsEnd Stands tokens at end.TooDeep = IsTooDeep Stands tokens at
IsEnd Stands tokens at end.NoMemory = Unit

-- the tree of a place, and where it ends
abbrev pub IsParsed : {T : Type 0} → (T → List Token → List Token → ℕ → Type 0) → List Token → ℕ → Parsed T → Type 0
IsParsed Stands tokens at (parsed.Tree t e) = IsTree Stands tokens at t e
IsParsed Stands tokens at parsed.None = Lacks Stands tokens at
IsParsed Stands tokens at parsed.TooDeep = IsTooDeep Stands tokens at
IsParsed Stands tokens at parsed.NoMemory = Unit

-- What a defined type comes to in the end. Go specification, "Types", where it speaks of underlying types.
use Rattle.std.specs.Prelude.{ℕ, zero, suc, ◌^◌, if◌then◌else◌, List, [], ◌∷◌, ◌++◌}
use Rattle.gs_terms.specs.declared.symbol.Symbol.{Symbol}
use Rattle.gs_terms.specs.Term.{Term, invalid, named}
use Rattle.gs_ask.specs.Ask.{ask, done}
use Rattle.gs_ask.specs.Reply.{Reply, known, absent, broken, Rule}
use Rattle.gs_ask.specs.Symbols.{has_symbol, is_error}
use Rattle.gs_terms.specs.Universe.{error_sig}

-- No source map has as many declarations, so no way from type to type that comes back to none is as long.
abbrev pub furthest : ℕ
furthest = 2 ^ 32

-- what is said of a defined type; that of `error` is known, and asked of nobody
abbrev pub described : {N L A : Type 0} → Symbol → (Reply → Rule N L A) → Rule N L A
described s go = if is_error s then go (known error_sig) else ask s go

abbrev pub under_by : {N L : Type 0} → (Term → Rule N L Term) → Reply → Rule N L Term
under_by again (known g) = again g.term
under_by again absent = done invalid
under_by again broken = done invalid

abbrev pub under_at : {N L : Type 0} → (List Symbol → Term → Rule N L Term) → List Symbol → Term → Rule N L Term
under_at again seen (named s) = if has_symbol seen s then done invalid else described s (under_by (again (seen ++ s ∷ [])))
under_at again seen t = done t

-- The right side of a defined type's declaration, where that is a defined type its right side, and so on through n of them.
-- Coming back to one of those that were seen gives Invalid.
unfoldable pub under_from : {N L : Type 0} → ℕ → List Symbol → Term → Rule N L Term
under_from zero seen t = done invalid
under_from (suc n) seen t = under_at (under_from n) seen t

-- the underlying type
abbrev pub underlying : {N L : Type 0} → Term → Rule N L Term
underlying t = under_from furthest [] t

-- What is answered of the tree that was built at a place.
use Rattle.std.proofs.Common.{Result, Ok, Err, ◌≡◌, ℕ, ◌-◌, ◌≤◌, List, length, drop, refl, sym, ap, subst, arith, Option, Some, None}
use Rattle.gs_syntax.specs.declared.token.Token.{Token}
use Rattle.gs_grammar.specs.Parts.{Found}
use Rattle.gs_grammar.proofs.Common.{some_is, some_is_none}
use Rattle.gs_places.specs.Places.{cap, spot}
use Rattle.gs_build_base.specs.declared.pieces.Piece.{Piece}
use Rattle.gs_build_base.specs.declared.pieces.Stop.{Stop}
use Rattle.gs_build_base.specs.declared.pieces.Stop.TheVariants as stop
use Rattle.gs_build_base.specs.Pieces.{Builds}
use Rattle.gs_ends.specs.declared.parsed.Parsed.{Parsed}
use Rattle.gs_ends.specs.Answer.{IsParsed, IsTree}
use Rattle.gs_ends.proofs.Ends.{IsRowOf, tree_at}
use Rattle.gs_parse_expr.specs.Built.{IsBuilt}

pub row_built : {T : Type 0} (Stands : T → List Token → List Token → ℕ → Type 0) (tokens : List Token) (at : ℕ) (o : Option (Found T)) (c : ℕ) (r : List Token) (built : Result (Piece T) Stop) (result : Parsed T) → at ≤ length tokens → IsRowOf Stands (drop at tokens) o → spot o ≡ Some (c, r) → c ≤ 200 → Builds built o → IsBuilt (length tokens) built result → IsParsed Stands tokens at result
row_built Stands tokens at None c r built result k i e l b q = absurd (some_is_none e)
row_built Stands tokens at (Some f) c r (Ok p) result k i e l b q =
    let deep : cap f.depth ≤ 200 = omega (arith, l, ap (λ z. z.0) (some_is e)) in
    let tree = tree_at Stands tokens at f (cap f.depth) f.rest k i refl deep in
    subst (IsParsed Stands tokens at) (sym q) (subst (λ z. IsTree Stands tokens at z.0 (length tokens - length z.1)) (some_is b) tree)
row_built Stands tokens at (Some f) c r (Err stop.Absent) result k i e l b q = absurd (some_is_none (sym b))
row_built Stands tokens at (Some f) c r (Err stop.NoMemory) result k i e l b q = subst (IsParsed Stands tokens at) (sym q) tt

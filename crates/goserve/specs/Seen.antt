-- What the code's declarations and names stand for.
use Rattle.std.specs.Prelude.{◌≡◌, ℕ, Bool, List, Option, Some, if◌then◌else◌}
use Rattle.std.specs.BTreeMap.{BTreeMap, get_by}
use Rattle.std.specs.Cmp.Lexicographic.{slice_cmp}
use Rattle.std.specs.Ordering.{nat_cmp}
use Rattle.std.specs.Str.{bytes_eq}
use denote.Ref.{Bor}
use Rattle.goserve.specs.declared.chunk.Right.{Right as RightItem}
use Rattle.goserve.specs.declared.chunk.Right.TheVariants as item
use Rattle.goserve.specs.declared.chunk.Declaration.{Declaration as DeclarationItem}
use Rattle.gs_rules.specs.Trees.{Right, Named, Number, Declaration}
use Rattle.gs_rules.specs.Files.{lookup_of}

abbrev pub seen_right : RightItem → Right
seen_right (item.Name name span) = Named name.now span
seen_right item.Number = Number

abbrev pub seen : DeclarationItem → Declaration
seen d = record { constant = d.constant; name = d.name.now; right = seen_right d.right }

-- what a name is declared as by a map
abbrev pub found : BTreeMap (Bor (List ℕ)) Bool → List ℕ → Option Bool
found names name = get_by (λ k. slice_cmp nat_cmp name k.now) names

-- a name more, that counts before the others
abbrev pub with_name : (List ℕ → Option Bool) → List ℕ → Bool → List ℕ → Option Bool
with_name lookup name constant other = if bytes_eq name other then Some constant else lookup other

-- a map has what these declare
abbrev pub HasNames : BTreeMap (Bor (List ℕ)) Bool → List Declaration → Type 0
HasNames names ds = found names ≡ lookup_of ds

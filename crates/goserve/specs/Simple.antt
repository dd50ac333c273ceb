-- The conditions of the first form on declarations, as the code tests them.
use Rattle.std.specs.Prelude.{◌≡◌, ℕ, Bool, true, false, not, ◌&&◌, List, Option, Some, None}
use Rattle.std.specs.List.{list_all}
use Rattle.std.specs.Option.{is_some}
use Rattle.std.specs.BTreeMap.{BTreeMap}
use denote.Ref.{Bor}
use Rattle.gs_rules.specs.Trees.{Declaration}
use Rattle.gs_rules.specs.Files.{lookup_of}
use Rattle.goserve.specs.FirstForm.{is_named_in, has_free_name, has_free_right, has_constant_right, are_in_order}
use Rattle.goserve.specs.Seen.{with_name, HasNames}

abbrev pub is_simple : (List ℕ → Option Bool) → Declaration → Bool
is_simple lookup d = has_free_name d && (has_free_right d && has_constant_right lookup d)

-- a declaration before others with these names is in order
abbrev pub is_next : (List ℕ → Option Bool) → Declaration → Bool
is_next lookup d = not (is_some (lookup d.name)) && not (is_named_in (with_name lookup d.name d.constant) d.right)

-- the names of declarations, and whether they are in order
pub record HasCollected (ds : List Declaration) (found : BTreeMap (Bor (List ℕ)) Bool × Bool) : Type 0 where
  pub names : HasNames found.0 ds
  pub order : found.1 ≡ are_in_order ds

-- the declarations are those of the first form
abbrev pub are_simple : List Declaration → Bool
are_simple ds = are_in_order ds && list_all (is_simple (lookup_of ds)) ds

abbrev pub HasNamed : List Declaration → Option (BTreeMap (Bor (List ℕ)) Bool) → Type 0
HasNamed ds None = are_simple ds ≡ false
HasNamed ds (Some names) = (are_simple ds ≡ true) × HasNames names ds

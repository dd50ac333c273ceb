-- Whether parameters are a receiver, from what stands at their places.
use Rattle.std.specs.Prelude.{Bool, false, not, ◌&&◌, if◌then◌else◌, List, [], ◌∷◌, is_none}
use Rattle.gs_syntax.specs.declared.token.Token.{Token}
use Rattle.gs_syntax.specs.declared.token.Operator.TheVariants as mark
use Rattle.gs_grammar.specs.Front.{mark_at}
use Rattle.gs_grammar.specs.Steps.{read_last_named, read_last_type}
use Rattle.gs_places.specs.Places.{stands}

-- one parameter, with at most one name, from the token on
abbrev pub only_by : Token → List Token → Bool
only_by x s = if is_none ((stands (x ∷ s)).named_params false) then not (is_none (read_last_type s stands false x)) else (not (is_none (read_last_named s stands false x)) && is_none (mark_at mark.Comma s))

abbrev pub is_only_at : List Token → Bool
is_only_at [] = false
is_only_at (x ∷ s) = is_none (mark_at mark.RightParen (x ∷ s)) && only_by x s

-- the same behind the opening parenthesis
abbrev pub receives : List Token → Bool
receives [] = false
receives (x ∷ s) = is_only_at s

-- What the answer of a typing call says.
use Rattle.std.specs.Prelude.{◌≡◌, List, Result, Ok, Err}
use Rattle.gs_terms.specs.declared.symbol.Symbol.{Symbol}
use Rattle.gs_ask.specs.Ask.{Outcome, ready, wait}
use Rattle.gs_ask.specs.declared.importer.Stop.{Stop}
use Rattle.gs_ask.specs.declared.importer.Stop.TheVariants.{Unready, NoMemory}

-- The call answers what its rule comes to, with these notes and with this kept: an answer where the rule ends, and the name
-- that is waited for where it waits. Of want of memory nothing is said.
unfoldable pub Gives : {N L A : Type 0} → Outcome Symbol N L A → List N → List L → Result A Stop → Type 0
Gives o ns ks (Ok a) = o ≡ ready a ns ks
Gives o ns ks (Err (Unready s)) = o ≡ wait s
Gives o ns ks (Err NoMemory) = Unit {0}

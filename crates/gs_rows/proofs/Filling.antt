-- The table is filled from the last token to the first.
use Rattle.std.proofs.Common.{◌≡◌, ℕ, zero, suc, ◌+◌, ◌-◌, ◌≤◌, ◌<◌, List, [], ◌∷◌, ◌++◌, length, take, drop, refl, ap, ◌∙◌, arith, length-drop}
use Rattle.std.proofs.Math.Seq.{take-length}
use Rattle.gs_syntax.specs.declared.token.Token.{Token}
use Rattle.gs_places.specs.declared.place.Place.{Place}
use Rattle.gs_places.specs.Places.{last, place, places}
use Rattle.gs_places.proofs.Table.{length-places}
use Rattle.gs_rows.specs.Turns.{Comes}

drop-next : (m : ℕ) (s : List Token) (x : Token) (r : List Token) → drop m s ≡ x ∷ r → drop (suc m) s ≡ r
drop-next zero s x r e = rw e refl
drop-next (suc m) [] x r e = cc
drop-next (suc m) (y ∷ s) x r e = drop-next m s x r e

pub comes : (i : ℕ) (ts : List Token) (x : Token) (r : List Token) → i < length ts → drop (length ts - i - 1) ts ≡ x ∷ r → Comes i ts x r
comes i ts x r l e =
    let one : length ts - (i + 1) ≡ length ts - i - 1 = omega arith in
    let two : length ts - i ≡ suc (length ts - i - 1) = omega arith in
    record { behind = rw two (drop-next (length ts - i - 1) ts x r e); from = rw one e }

pub grown : (i : ℕ) (ts : List Token) (x : Token) (r : List Token) → Comes i ts x r → places (last (i + 1) ts) ≡ places (last i ts) ++ place (x ∷ r) ∷ []
unfolding places
grown i ts x r c = rw (c.from, c.behind) refl

drop-all : (ts : List Token) → drop (length ts - 0) ts ≡ []
drop-all [] = refl
drop-all (x ∷ ts) = let e : suc (length ts) - 0 ≡ suc (length ts - 0) = omega arith in rw e (drop-all ts)

pub start : (ts : List Token) → places (last 0 ts) ≡ place [] ∷ []
unfolding places
start ts = rw (drop-all ts) refl

pub finish : (ts : List Token) → last (length ts) ts ≡ ts
finish ts = let none : length ts - length ts ≡ 0 = omega arith in rw none refl

-- the table of a place is all of it
pub whole_fits : (s : List Token) (table : List Place) → table ≡ places s → take (suc (length s)) table ≡ places s
whole_fits s table e = rw (e, ← length-places s) (take-length (places s))

pub fits_behind : (i : ℕ) (ts : List Token) (x : Token) (r : List Token) (table : List Place) → Comes i ts x r → table ≡ places (last i ts) → take (suc (length r)) table ≡ places r
fits_behind i ts x r table c e = whole_fits r table (e ∙ ap places c.behind)

pub few_behind : (i : ℕ) (ts : List Token) (x : Token) (r : List Token) → Comes i ts x r → length r + 1 ≤ length ts
few_behind i ts x r c = omega (arith, ap length c.from, length-drop (length ts - (i + 1)) ts)

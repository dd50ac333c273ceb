-- A piece more of an input.
use Rattle.std.proofs.Common.{◌≡◌, ℕ, ◌+◌, ◌≤◌, List, ◌++◌, length, take, arith, Option}
use Rattle.std.proofs.lemmas.List.{length-append, length-take-le}
use Rattle.std.specs.Io.KnownBytes.{Consumes}
use Rattle.goserve.specs.Moves.{Fronts, HasPassed, HasTaken, most_input}
use Rattle.goserve.proofs.Moving.{consumes_more}

longer : (items buffer : List ℕ) (n : ℕ) → n ≤ length buffer → length (items ++ take n buffer) ≡ length items + n
longer items buffer n h = omega (arith, length-append items (take n buffer), length-take-le n buffer h)

pub passed_more : (left mid later : Option (List ℕ)) (items buffer : List ℕ) (most n : ℕ) → Consumes left mid items → Fronts mid later buffer most n →
    n ≤ length buffer → length items + n ≡ most_input + 1 → HasPassed left later
passed_more left mid later items buffer most n taken front within size = record {
  input = items ++ take n buffer;
  taken = consumes_more left mid later items (take n buffer) taken front.bytes;
  size = let e = longer items buffer n within in omega (arith, e, size);
}

pub taken_more : (left mid later : Option (List ℕ)) (items buffer : List ℕ) (most n : ℕ) → Consumes left mid items → Fronts mid later buffer most n →
    n ≤ length buffer → length items + n ≤ most_input → HasTaken left later
taken_more left mid later items buffer most n taken front within size = record {
  input = items ++ take n buffer;
  taken = consumes_more left mid later items (take n buffer) taken front.bytes;
  size = let e = longer items buffer n within in omega (arith, e, size);
}

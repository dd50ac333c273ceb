-- Counts of faults.
use Rattle.std.specs.Prelude.{ℕ, ◌+◌, ◌-◌, ◌^◌, ◌≤◌, min}

-- one more; a count that stands at its greatest number, 2 ^ 64 - 1, stays there
abbrev pub one_more : ℕ → ℕ
one_more count = min (count + 1) (2 ^ 64 - 1)

-- a count rose; one that cannot rise further counts as risen
abbrev pub Rose : ℕ → ℕ → Type 0
Rose before now = one_more before ≤ now

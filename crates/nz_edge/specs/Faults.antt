-- Counts of faults, which stop at 2^64 - 1.
use Rattle.std.specs.Prelude.{ℕ, ◌+◌, ◌-◌, ◌^◌, ◌<◌, ◌≤◌, ◌⊎◌, min}

-- The most that a count says.
abbrev pub most_counted : ℕ
most_counted = 2 ^ 64 - 1

-- A count after one more.
abbrev pub one_fault_more : ℕ → ℕ
one_fault_more count = min (count + 1) most_counted

-- A count rose, or is at its limit.
abbrev pub Rose : ℕ → ℕ → Type 0
Rose before after = (before < after) ⊎ (most_counted ≤ after)

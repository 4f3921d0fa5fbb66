-- Counts of failures, which are kept in 64 bits.
use Rattle.std.specs.Prelude.{ℕ, ◌+◌, ◌-◌, ◌^◌, ◌≤◌, min}

-- a count after one more failure; the last number of 64 bits is kept
abbrev pub raised : ℕ → ℕ
raised count = min (count + 1) (2 ^ 64 - 1)

-- a failure was counted between two moments, as far as the count can show
abbrev pub Rose : ℕ → ℕ → Type 0
Rose before now = raised before ≤ now

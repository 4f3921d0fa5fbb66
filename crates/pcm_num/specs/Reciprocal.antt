-- The reciprocal of a divisor, in parts of 2 to the power 69.
use Rattle.std.specs.Prelude.{ℕ, ◌+◌, ◌/◌, ◌^◌}

-- the least number of parts that is past the reciprocal
abbrev pub reciprocal_of : ℕ → ℕ
reciprocal_of divisor = 2 ^ 69 / divisor + 1

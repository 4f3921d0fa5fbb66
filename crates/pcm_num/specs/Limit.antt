-- Samples of a number of bits: which numbers they are, and the nearest one to a number.
use Rattle.std.specs.Prelude.{ℕ, ℤ, pos, negsuc, ◌+◌, ◌-◌, ◌^◌, ◌≤ℤ◌}
use Rattle.std.specs.Int.{int_max, int_min, int_gap}

-- the greatest sample of a number of bits
abbrev pub greatest_of : ℕ → ℤ
greatest_of bits = pos (2 ^ (bits - 1) - 1)

-- the least sample of a number of bits, one further from zero
abbrev pub least_of : ℕ → ℤ
least_of bits = negsuc (2 ^ (bits - 1) - 1)

-- the number is a sample of `bits` bits
pub record FitsBits (bits : ℕ) (z : ℤ) : Type 0 where
  pub low : least_of bits ≤ℤ z
  pub high : z ≤ℤ greatest_of bits

-- the number, or the end of the range of `bits` that it passes
abbrev pub clamped : ℕ → ℤ → ℤ
clamped bits z = int_max (least_of bits) (int_min z (greatest_of bits))

-- how far two numbers lie apart
abbrev pub distance : ℤ → ℤ → ℕ
distance a b = int_gap a b + int_gap b a

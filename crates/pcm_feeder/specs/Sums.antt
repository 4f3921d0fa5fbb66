-- Sums of products, and the samples that they are scaled down to.
use Rattle.std.specs.Prelude.{ℕ, ◌-◌, ◌^◌, ℤ, pos, ◌+ℤ◌, List, fold}
use Rattle.pcm_num.specs.Floor.{floor_div}
use Rattle.pcm_num.specs.Limit.{clamped}

-- the sum of samples without a limit
abbrev pub sum_of : List ℤ → ℤ
sum_of samples = fold ◌+ℤ◌ (pos 0) samples

-- a sum of products divided by 2 ^ shift, rounded to the nearest and limited to 32 bits
abbrev pub scaled_down : ℕ → ℤ → ℤ
scaled_down shift sum = clamped 32 (floor_div (sum +ℤ pos (2 ^ (shift - 1))) (2 ^ shift))

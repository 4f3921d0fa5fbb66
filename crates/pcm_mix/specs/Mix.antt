-- Sound added to sound, with a limit at each sample.
use Rattle.std.specs.Prelude.{◌≡◌, ◌≤◌, ℕ, ℤ, ◌+ℤ◌, List, All, length}
use Rattle.std.specs.Simd.Lanes.{zip2}
use Rattle.pcm_num.specs.Limit.{FitsBits, clamped}

-- the sum of two samples, or the end of the range of `bits` that it passes
abbrev pub limited_sum : ℕ → ℤ → ℤ → ℤ
limited_sum bits a b = clamped bits (a +ℤ b)

-- a block added to a block of the same length, sample by sample
abbrev pub mixed : ℕ → List ℤ → List ℤ → List ℤ
mixed bits acc add = zip2 (limited_sum bits) acc add

-- two blocks of one length, whose samples have so many bits
pub record CanMix (bits : ℕ) (acc add : List ℤ) : Type 0 where
  pub lengths : length acc ≡ length add
  pub held : All (FitsBits bits) acc
  pub added : All (FitsBits bits) add

-- two blocks of `n` samples or more, whose samples have so many bits
pub record CanMixFirst (n bits : ℕ) (acc add : List ℤ) : Type 0 where
  pub held_length : n ≤ length acc
  pub added_length : n ≤ length add
  pub held : All (FitsBits bits) acc
  pub added : All (FitsBits bits) add

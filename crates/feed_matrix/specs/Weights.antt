-- The weights of a pair of layouts as rows, and a frame's sum by one row.
use Rattle.std.specs.Prelude.{◌≡◌, ◌≤◌, ℕ, ℤ, pos, ◌*ℤ◌, List, length, map, take, All}
use Rattle.std.specs.Simd.Lanes.{zip2}
use Rattle.pcm_format.specs.Frames.{Frame}
use Rattle.pcm_format.specs.Layouts.{channels_of, positions_of}
use Rattle.pcm_format.specs.declared.layout.Layout.{Layout}
use Rattle.pcm_format.specs.declared.layout.Position.{Position}
use Rattle.pcm_feeder.specs.Layouts.{weight}
use Rattle.pcm_feeder.specs.Sums.{sum_of}

-- the weights of a target position, one for each position of the source
abbrev pub row_of : Layout → Layout → Position → List ℕ
row_of from to target = map (weight to target) (positions_of from)

-- a number is a weight, which is no more than one
pub record IsWeight (to : Layout) (target source : Position) (found : ℕ) : Type 0 where
  pub value : found ≡ weight to target source
  pub limit : found ≤ 65536

-- no weight is above one
abbrev pub AreAtMostOne : List ℕ → Type 0
AreAtMostOne row = All (λ weight. weight ≤ 65536) row

-- the front of each row is the weights of its target position
pub record AreWeights (from to : Layout) (rows : List (List ℕ)) : Type 0 where
  pub count : length rows ≡ 8
  pub lengths : All (λ row. length row ≡ 8) rows
  pub limits : All AreAtMostOne rows
  pub fronts : map (take (channels_of from)) (take (channels_of to) rows)
      ≡ map (row_of from to) (positions_of to)

-- the sum of a frame's samples, each times its weight
abbrev pub weighted_sum : List ℕ → Frame → ℤ
weighted_sum row frame = sum_of (zip2 (λ weight sample. pos weight *ℤ sample) row frame)

-- Frames through one row of a filter.
use Rattle.std.specs.Prelude.{◌*◌, ℕ, ℤ, pos, ◌*ℤ◌, List, map, take, drop, slice_index_or}
use Rattle.std.specs.List.{range_with_len}
use Rattle.std.specs.Simd.Lanes.{zip2}
use Rattle.pcm_format.specs.Frames.{Frame}
use Rattle.pcm_feeder.specs.declared.table.Table.{Table}
use Rattle.pcm_feeder.specs.Sums.{sum_of, scaled_down}

-- a row of a filter's coefficients
abbrev pub row_in : Table → ℕ → List ℤ
row_in table row = take table.taps (drop (row * table.taps) table.coefs)

-- the samples of a channel
abbrev pub channel_in : ℕ → List Frame → List ℤ
channel_in channel frames = map (λ frame. slice_index_or frame channel (pos 0)) frames

-- the sum of samples, each times its coefficient
abbrev pub weighted : List ℤ → List ℤ → ℤ
weighted coefs samples = sum_of (zip2 ◌*ℤ◌ coefs samples)

-- each channel of frames through a row
abbrev pub row_frame : ℕ → List ℤ → ℕ → List Frame → Frame
row_frame shift coefs channels frames =
    map (λ channel. scaled_down shift (weighted coefs (channel_in channel frames)))
    (range_with_len 0 channels)

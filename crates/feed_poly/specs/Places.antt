-- Where a window keeps the samples of its frames: 128 places for each channel, a sample at two of them.
use Rattle.std.specs.Prelude.{◌≡◌, ◌≢◌, ◌<◌, ◌≤◌, ◌+◌, ◌*◌, ℕ, ℤ, pos, List, length, map, slice_index_or}
use Rattle.std.specs.List.{range_with_len}
use Rattle.pcm_format.specs.Frames.{Frame}

-- the sample of a channel at a place
abbrev pub window_sample : List ℤ → ℕ → ℕ → ℤ
window_sample samples channel place = slice_index_or samples (channel * 128 + place) (pos 0)

-- of each channel, what lies at the first `taps` places lies again `taps` places later
abbrev pub IsTwice : ℕ → List ℤ → Type 0
IsTwice taps samples =
    (channel place : ℕ) → channel < 8 → place < taps
    → window_sample samples channel (place + taps) ≡ window_sample samples channel place

-- the frame at a place
abbrev pub window_frame : ℕ → List ℤ → ℕ → Frame
window_frame channels samples place =
    map (λ channel. window_sample samples channel place) (range_with_len 0 channels)

-- `count` frames from a place on
abbrev pub frames_from : ℕ → ℕ → List ℤ → ℕ → List Frame
frames_from channels count samples at =
    map (λ i. window_frame channels samples (at + i)) (range_with_len 0 count)

-- the first n channels of a frame were written at a place, and `taps` places later
pub record ArePut (taps at : ℕ) (frame : List ℤ) (n : ℕ) (old new : List ℤ) : Type 0 where
  pub size : length new ≡ length old
  pub first : (channel : ℕ) → channel < n
      → window_sample new channel at ≡ slice_index_or frame channel (pos 0)
  pub again : (channel : ℕ) → channel < n
      → window_sample new channel (at + taps) ≡ slice_index_or frame channel (pos 0)
  pub others : (channel place : ℕ) → place < 128 → place ≢ at → place ≢ at + taps
      → window_sample new channel place ≡ window_sample old channel place
  pub behind : (channel place : ℕ) → place < 128 → n ≤ channel
      → window_sample new channel place ≡ window_sample old channel place

-- A point among two frames kept and those that come.
use Rattle.std.specs.Prelude.{◌≡◌, ◌<◌, ◌≤◌, ◌+◌, ◌*◌, ℕ, ℤ, List, length}
use Rattle.pcm_format.specs.Frames.{Frame}
use Rattle.pcm_feeder.specs.Stages.{blended}
use Rattle.pcm_feeder.specs.Streams.{frame_behind}

-- two frames are kept, those up to a place are there, and the output has room for just a frame
pub record CanBlend (channels : ℕ) (kept input : List ℤ) (place : ℕ) (output : List ℤ) : Type 0 where
  pub some : 0 < channels
  pub two : length kept ≡ 2 * channels
  pub there : place * channels ≤ length input
  pub room : length output ≡ channels

-- the point on the line from the frame at a place to the next, `parts` parts of a whole past it
abbrev pub point_on_line : ℕ → List ℤ → List ℤ → ℕ → ℕ → ℕ → Frame
point_on_line channels kept input place whole parts =
    blended whole parts (frame_behind channels kept input place)
    (frame_behind channels kept input (place + 1))

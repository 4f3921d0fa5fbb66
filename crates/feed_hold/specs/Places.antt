-- A place among the frame kept and those that come.
use Rattle.std.specs.Prelude.{◌≡◌, ◌≤◌, ◌*◌, ℕ, ℤ, List, length}
use Rattle.pcm_feeder.specs.Limits.{AreChannels}

-- one frame is kept, the one at the place is there, and the output has room for just a frame
pub record CanHold (channels : ℕ) (kept input : List ℤ) (place : ℕ) (output : List ℤ) : Type 0 where
  pub limits : AreChannels channels
  pub one : length kept ≡ channels
  pub there : place * channels ≤ length input
  pub room : length output ≡ channels

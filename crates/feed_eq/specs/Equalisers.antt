-- What a contract sees of an `Equaliser`: the frames that it keeps.
use Rattle.std.specs.Prelude.{◌≡◌, ◌≤◌, ℕ, ◌+◌, List, take}
use Rattle.pcm_format.specs.Frames.{Frame}
use Rattle.pcm_feeder.specs.Limits.{AreChannels}
use Rattle.feed_eq.specs.declared.equaliser.Equaliser.{Equaliser}
use Rattle.feed_eq.specs.Pairs.{pair_frames}

-- the last two frames of the input, and of each section's outputs
abbrev pub tail_of : Equaliser → List Frame
tail_of found = pair_frames (take (found.sections + 1) found.lasts)

-- what an equaliser can be fitted to
pub record CanEqualise (channels sections : ℕ) : Type 0 where
  pub limits : AreChannels channels
  pub few : sections ≤ 4

-- an equaliser is fitted to as many channels and sections
pub record IsFittedTo (width count : ℕ) (found : Equaliser) : Type 0 where
  pub channels : found.channels ≡ width
  pub sections : found.sections ≡ count

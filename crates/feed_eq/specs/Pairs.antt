-- Pairs of last frames, one after another.
use Rattle.std.specs.Prelude.{◌≡◌, ℕ, List, flat_map}
use Rattle.pcm_format.specs.Frames.{Frame}
use Rattle.pcm_feeder.specs.declared.last_frames.LastFrames.{LastFrames}
use Rattle.pcm_feeder.specs.LastFrames.{frames_kept}

-- two frames of `channels` channels
pub record IsPair (channels : ℕ) (last : LastFrames) : Type 0 where
  pub two : last.frames ≡ 2
  pub width : last.channels ≡ channels

-- the frames that these keep
abbrev pub pair_frames : List LastFrames → List Frame
pair_frames lasts = flat_map frames_kept lasts

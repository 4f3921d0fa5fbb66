-- What a contract sees of `LastFrames`: the frames themselves.
use Rattle.std.specs.Prelude.{ℕ, ℤ, List, take}
use Rattle.pcm_format.specs.Frames.{Frame}
use Rattle.pcm_feeder.specs.declared.last_frames.LastFrames.{LastFrames}
use Rattle.pcm_feeder.specs.Streams.{frames_of, moved_on}

-- the frames
abbrev pub frames_kept : LastFrames → List Frame
frames_kept last = frames_of last.channels (take last.len last.samples)

-- the frames, after `eaten` frames of the input were eaten
abbrev pub kept_after_eating : LastFrames → List ℤ → ℕ → List Frame
kept_after_eating last input eaten =
    moved_on (frames_kept last) (take eaten (frames_of last.channels input))

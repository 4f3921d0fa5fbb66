-- The frames of samples with a gain for each channel.
use Rattle.std.specs.Prelude.{ℕ, ℤ, List, length, map, take}
use Rattle.pcm_format.specs.Frames.{Frame}
use Rattle.pcm_feeder.specs.Streams.{frames_of}
use Rattle.pcm_feeder.specs.Gains.{at_gains}

-- the first n frames of samples, each times the gains of its channels
abbrev pub first_at_gains : List ℕ → ℕ → List ℤ → List Frame
first_at_gains gains n samples = map (at_gains gains) (take n (frames_of (length gains) samples))

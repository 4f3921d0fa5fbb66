-- Samples at a gain.
use Rattle.std.specs.Prelude.{ℤ, List, map}
use Rattle.pcm_format.specs.declared.layout.Layout.{Layout}
use Rattle.pcm_format.specs.Layouts.{channels_of}
use Rattle.pcm_feeder.specs.declared.stage.Gain.{Gain}
use Rattle.pcm_feeder.specs.Layouts.{at_gain}
use Rattle.pcm_feeder.specs.Streams.{frames_of, interleaved}

-- the frames of samples, each sample times the gain of its position, rounded down
abbrev pub faded : Layout → Gain → List ℤ → List ℤ
faded layout gain samples = interleaved (map (at_gain layout gain) (frames_of (channels_of layout) samples))

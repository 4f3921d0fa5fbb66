use Rattle.std.proofs.Common.{◌≡◌, length, map, take}
use Rattle.pcm_feeder.specs.Streams.{frames_of, written}
use Rattle.pcm_feeder.specs.Gains.{at_gains}
use Rattle.feed_volume.proofs.volume.put_at_gains.Given as goal

-- the first frames are written
abbrev pub invariant-loop-k : goal.invariant-loop-k
invariant-loop-k l = l.output ≡ written (map (at_gains l.gains) (take l.k (frames_of (length l.gains) l.input))) l.fn.output

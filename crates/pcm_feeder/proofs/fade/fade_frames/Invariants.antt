use Rattle.std.proofs.Common.{◌≡◌, length, map, take}
use Rattle.pcm_feeder.specs.Streams.{frames_of, written}
use Rattle.pcm_feeder.specs.Gains.{at_gains}
use Rattle.pcm_feeder.proofs.fade.fade_frames.Given as goal

-- the first frames are at their gains
abbrev pub invariant-loop-k : goal.invariant-loop-k
invariant-loop-k l = l.frames ≡ written (map (at_gains l.gains) (take l.k (frames_of (length l.gains) l.fn.frames))) l.fn.frames

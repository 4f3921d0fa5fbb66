use Rattle.std.proofs.Common.{◌≡◌, map, take}
use Rattle.pcm_format.specs.Layouts.{channels_of}
use Rattle.pcm_feeder.specs.Layouts.{in_layout}
use Rattle.pcm_feeder.specs.Streams.{frames_of, written}
use Rattle.feed_matrix.proofs.matrix.put_each.Given as goal

abbrev pub invariant-loop-k : goal.invariant-loop-k
invariant-loop-k l =
    l.output ≡ written (map (in_layout l.fn.from l.fn.to) (take l.k (frames_of (channels_of l.fn.from) l.input))) l.fn.output

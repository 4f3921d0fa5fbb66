use Rattle.std.proofs.Common.{◌≡◌}
use Rattle.pcm_sequence.specs.Fixed.{fixed_items}
use Rattle.pcm_feeder.specs.Streams.{written}
use Rattle.feed_poly.specs.Places.{frames_from}
use Rattle.feed_poly.proofs.window.Window.keep.Given as goal

-- the first frames are copied
abbrev pub invariant-loop-k : goal.invariant-loop-k
invariant-loop-k l = l.samples ≡ written (frames_from l.channels l.k (fixed_items l.self.samples) l.self.at) l.fn.samples

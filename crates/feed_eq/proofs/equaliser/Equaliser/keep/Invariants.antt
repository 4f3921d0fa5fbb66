use Rattle.std.proofs.Common.{◌≡◌, take}
use Rattle.pcm_feeder.specs.Streams.{interleaved}
use Rattle.feed_eq.specs.Pairs.{pair_frames}
use Rattle.feed_eq.proofs.Resuming.{pair_at}
use Rattle.feed_eq.proofs.equaliser.Equaliser.keep.Given as goal

-- the pairs before one are copied
abbrev pub invariant-loop-at : goal.invariant-loop-at
invariant-loop-at l = take (pair_at l.self.channels l.at) l.samples ≡ interleaved (pair_frames (take l.at l.self.lasts))

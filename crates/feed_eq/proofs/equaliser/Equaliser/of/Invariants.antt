use Rattle.std.proofs.Common.{◌≡◌, length, take, All}
use Rattle.pcm_feeder.specs.Streams.{frames_of}
use Rattle.feed_eq.specs.Pairs.{IsPair, pair_frames}
use Rattle.feed_eq.proofs.Resuming.{pair_at}
use Rattle.feed_eq.proofs.equaliser.Equaliser.of.Given as goal

-- the pairs before one are there
abbrev pub invariant-loop-at : goal.invariant-loop-at
invariant-loop-at l = record {
  room : length l.lasts ≡ 5;
  pairs : All (IsPair l.channels) l.lasts;
  same : pair_frames (take l.at l.lasts) ≡ frames_of l.channels (take (pair_at l.channels l.at) l.samples);
}

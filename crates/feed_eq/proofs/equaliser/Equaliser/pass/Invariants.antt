use Rattle.std.proofs.Common.{◌≡◌, ◌++◌, length, take, drop, All}
use Rattle.pcm_feeder.specs.Sections.{sections_on, past_behind}
use Rattle.pcm_feeder.specs.Streams.{frames_of}
use Rattle.feed_eq.specs.Pairs.{IsPair, pair_frames}
use Rattle.feed_eq.specs.Equalisers.{tail_of}
use Rattle.feed_eq.proofs.Equalising.{window}
use Rattle.feed_eq.proofs.equaliser.Equaliser.pass.Given as goal

-- what is left to be done gives what is asked
abbrev pub invariant-loop-at : goal.invariant-loop-at
invariant-loop-at l = record {
  room : length l.lasts ≡ 5;
  pairs : All (IsPair l.channels) l.lasts;
  left : sections_on l.channels (drop l.at l.sections) (pair_frames (window (length l.sections) l.at l.lasts)) (frames_of l.channels l.samples)
      ≡ sections_on l.channels l.sections (tail_of l.fn.self) (frames_of l.channels l.fn.samples);
  kept : pair_frames (take l.at l.lasts) ++ past_behind l.channels (drop l.at l.sections) (pair_frames (window (length l.sections) l.at l.lasts)) (frames_of l.channels l.samples)
      ≡ past_behind l.channels l.sections (tail_of l.fn.self) (frames_of l.channels l.fn.samples);
}

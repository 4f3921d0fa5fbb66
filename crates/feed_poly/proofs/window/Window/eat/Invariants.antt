use Rattle.std.proofs.Common.{◌≡◌, take, drop}
use Rattle.pcm_feeder.specs.Streams.{frames_of, moved_on}
use Rattle.feed_poly.specs.Window.{window_frames}
use Rattle.feed_poly.proofs.window.Window.eat.Given as goal

-- the first frames are in the window
abbrev pub invariant-loop-k : goal.invariant-loop-k
invariant-loop-k l = record {
  frames : window_frames l.self ≡ moved_on (window_frames l.fn.self) (drop l.from (take l.k (frames_of l.fn.self.channels l.input)));
  channels : l.self.channels ≡ l.fn.self.channels;
  taps : l.self.taps ≡ l.fn.self.taps;
}

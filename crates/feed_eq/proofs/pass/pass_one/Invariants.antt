use Rattle.std.proofs.Common.{◌+◌, ◌/◌, ℤ, List, length}
use Rattle.feed_eq.specs.Lanes.{HoldsChannels, IsLaneAt, IsPassed, PutsFrames}
use Rattle.feed_eq.proofs.pass.pass_one.Given as goal

-- the outputs of the channel stand in their place up to this frame
abbrev pub invariant-loop-k : goal.invariant-loop-k
invariant-loop-k l = record {
  lane : (x y : List ℤ) → IsPassed l.section l.channels (length l.fn.samples / l.channels) x y → IsLaneAt l.section l.channels x y 0 l.channel l.fn.lane
      → HoldsChannels l.channels l.channel (l.channel + 1) x l.fn.samples → IsLaneAt l.section l.channels x y l.k l.channel l.lane;
  puts : (x y : List ℤ) → IsPassed l.section l.channels (length l.fn.samples / l.channels) x y → IsLaneAt l.section l.channels x y 0 l.channel l.fn.lane
      → HoldsChannels l.channels l.channel (l.channel + 1) x l.fn.samples → PutsFrames l.channels l.channel (l.channel + 1) l.k y l.fn.samples l.samples;
}

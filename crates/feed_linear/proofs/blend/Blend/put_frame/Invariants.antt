use Rattle.std.proofs.Common.{◌≡◌, take}
use Rattle.pcm_feeder.specs.Stages.{blended}
use Rattle.feed_linear.proofs.blend.Blend.put_frame.Given as goal

-- the first samples are at the point
abbrev pub invariant-loop-channel : goal.invariant-loop-channel
invariant-loop-channel l = take l.channel l.output ≡ blended l.self.whole.divisor l.self.parts (take l.channel l.frame) (take l.channel l.next)

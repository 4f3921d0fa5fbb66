use Rattle.std.proofs.Common.{◌≡◌, take}
use Rattle.pcm_feeder.specs.Gains.{at_gains}
use Rattle.pcm_feeder.proofs.gains.put_frame.Given as goal

-- the first samples are at their gains
abbrev pub invariant-loop-channel : goal.invariant-loop-channel
invariant-loop-channel l = take l.channel l.output ≡ at_gains (take l.channel l.gains) (take l.channel l.frame)

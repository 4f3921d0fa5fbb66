use Rattle.std.proofs.Common.{◌≤◌, ◌-◌, ◌/◌, ◌++◌, length}
use Rattle.feed_eq.specs.Lanes.{PutsFrames}
use Rattle.feed_eq.proofs.Turned.{made_by}
use Rattle.feed_eq.proofs.pass.pass.Given as goal

-- the first channels are turned
abbrev pub invariant-loop-channel : goal.invariant-loop-channel
invariant-loop-channel l = record {
  within : l.channel ≤ l.channels;
  puts : PutsFrames l.channels 0 l.channel (length l.fn.samples / l.channels) (l.output ++ made_by l.section l.channels l.input l.output l.fn.samples) l.fn.samples l.samples;
}

-- two channels fewer are left
abbrev pub decreases-loop-channel : goal.decreases-loop-channel
decreases-loop-channel l = l.channels - l.channel

use Rattle.feed_poly.specs.Places.{ArePut}
use Rattle.feed_poly.proofs.window.put_twice.Given as goal

-- the first channels are written
abbrev pub invariant-loop-channel : goal.invariant-loop-channel
invariant-loop-channel l = ArePut l.taps l.at l.frame l.channel l.fn.samples l.samples

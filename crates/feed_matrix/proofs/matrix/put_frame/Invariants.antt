use Rattle.std.proofs.Common.{◌≡◌, take}
use Rattle.pcm_feeder.specs.Layouts.{in_layout}
use Rattle.feed_matrix.proofs.matrix.put_frame.Given as goal

abbrev pub invariant-loop-at : goal.invariant-loop-at
invariant-loop-at l = take l.at l.output ≡ take l.at (in_layout l.fn.from l.fn.to l.frame)

use Rattle.std.proofs.Common.{All}
use Rattle.pcm_num.specs.Limit.{FitsBits}
use Rattle.pcm_tests.proofs.mixes.blocks.Given as goal

abbrev pub invariant-loop-at : goal.invariant-loop-at
invariant-loop-at l = All (FitsBits l.bits) l.acc × All (FitsBits l.bits) l.add

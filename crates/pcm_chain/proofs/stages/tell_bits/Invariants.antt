use Rattle.std.proofs.Common.{take, All}
use Rattle.pcm_num.specs.Limit.{FitsBits}
use Rattle.pcm_chain.proofs.stages.tell_bits.Given as goal

abbrev pub invariant-loop-sample : goal.invariant-loop-sample
invariant-loop-sample l = All (FitsBits 32) (take l.sample-index l.samples)

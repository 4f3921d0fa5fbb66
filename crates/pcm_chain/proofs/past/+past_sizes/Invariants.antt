use Rattle.std.proofs.Common.{length}
use Rattle.pcm_chain.proofs.past.+past_sizes.Given as goal

-- each call has a stage fewer before it
abbrev pub decreases-past_sizes : goal.decreases-past_sizes
decreases-past_sizes l = length l.stages.now

use Rattle.std.proofs.Common.{length}
use Rattle.pcm_chain.proofs.past.+tell_stages.Given as goal

-- each call has a stage fewer before it
abbrev pub decreases-tell_stages : goal.decreases-tell_stages
decreases-tell_stages g l = length l.stages.now

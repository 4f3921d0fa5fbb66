use Rattle.std.proofs.Common.{length}
use Rattle.pcm_chain.proofs.past.+keep_stages.Given as goal

-- each call has a stage fewer before it
abbrev pub decreases-keep_stages : goal.decreases-keep_stages
decreases-keep_stages g l = length l.stages.now

use Rattle.std.proofs.Common.{length}
use Rattle.pcm_chain.proofs.stages.+feed_stages.Given as goal

-- each call has a stage fewer before it
abbrev pub decreases-feed_stages : goal.decreases-feed_stages
decreases-feed_stages g l = length l.stages.now

use Rattle.pcm_feeder.proofs.Phases.{reach_allowed}
use Rattle.pcm_feeder.proofs.laws.allowed_outputs_reach_no_further.Goals as goal

pub returns : goal.returns
returns c = record { allowed = λ rate src dst phase n m. reach_allowed rate phase n m src dst }

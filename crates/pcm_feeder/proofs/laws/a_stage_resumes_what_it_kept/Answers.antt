use Rattle.pcm_feeder.proofs.Resumed.{resumes}
use Rattle.pcm_feeder.proofs.laws.a_stage_resumes_what_it_kept.Goals as goal

pub returns : goal.returns
returns c = resumes

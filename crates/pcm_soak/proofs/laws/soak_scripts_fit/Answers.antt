use Rattle.pcm_soak.proofs.Kept.{soak_script-counts, soak_script-fits, soak_script-frames, soak_script-sound, soak_script-sum}
use Rattle.pcm_soak.proofs.laws.soak_scripts_fit.Goals as goal

pub returns-clause-fits : goal.returns-clause-fits
returns-clause-fits c = soak_script-fits

pub returns-clause-counts : goal.returns-clause-counts
returns-clause-counts c = soak_script-counts

pub returns-clause-sum : goal.returns-clause-sum
returns-clause-sum c = soak_script-sum

pub returns-clause-frames : goal.returns-clause-frames
returns-clause-frames c = soak_script-frames

pub returns-clause-bytes : goal.returns-clause-bytes
returns-clause-bytes c n = (soak_script-sound n).frames

use Rattle.pcm_format.proofs.Spelling.{at_depth-silence, sample_value-silence, loaded-silence}
use Rattle.pcm_format.proofs.laws.silence_is_zero.Goals as goal

pub returns-clause-depth : goal.returns-clause-depth
returns-clause-depth c = at_depth-silence

pub returns-clause-value : goal.returns-clause-value
returns-clause-value c = sample_value-silence

pub returns-clause-loaded : goal.returns-clause-loaded
returns-clause-loaded c = loaded-silence

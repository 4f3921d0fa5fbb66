use Rattle.pcm_text.proofs.Scripts.{text-read, text-same}
use Rattle.pcm_text.proofs.laws.what_is_written_is_read_back.Goals as goal

pub returns-clause-read : goal.returns-clause-read
returns-clause-read c = text-read

pub returns-clause-same : goal.returns-clause-same
returns-clause-same c = text-same

use Rattle.pcm_wave.proofs.ReadBack.{header-read, body-read, length-header}
use Rattle.pcm_wave.proofs.laws.what_is_written_is_read_back.Goals as goal

pub returns-clause-wave : goal.returns-clause-wave
returns-clause-wave c = header-read

pub returns-clause-length : goal.returns-clause-length
returns-clause-length c = length-header

pub returns-clause-body : goal.returns-clause-body
returns-clause-body c = body-read

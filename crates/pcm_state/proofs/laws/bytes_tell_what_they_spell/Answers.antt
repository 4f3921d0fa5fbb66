use Rattle.pcm_state.proofs.Spelled.{length-numbers, length-samples, numbers-known, samples-known}
use Rattle.pcm_state.proofs.laws.bytes_tell_what_they_spell.Goals as goal

pub returns-clause-numbers : goal.returns-clause-numbers
returns-clause-numbers c = numbers-known

pub returns-clause-number_bytes : goal.returns-clause-number_bytes
returns-clause-number_bytes c = length-numbers

pub returns-clause-samples : goal.returns-clause-samples
returns-clause-samples c = samples-known

pub returns-clause-sample_bytes : goal.returns-clause-sample_bytes
returns-clause-sample_bytes c = length-samples

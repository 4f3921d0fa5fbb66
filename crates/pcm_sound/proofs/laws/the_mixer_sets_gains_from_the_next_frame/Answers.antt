use Rattle.pcm_sound.proofs.FaderLaws.{mixer-leaves, mixer-next, mixer-past}
use Rattle.pcm_sound.proofs.laws.the_mixer_sets_gains_from_the_next_frame.Goals as goal

pub returns-clause-past : goal.returns-clause-past
returns-clause-past c = mixer-past

pub returns-clause-next : goal.returns-clause-next
returns-clause-next c = mixer-next

pub returns-clause-rest : goal.returns-clause-rest
returns-clause-rest c = mixer-leaves

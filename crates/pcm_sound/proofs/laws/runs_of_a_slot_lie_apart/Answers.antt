use Rattle.pcm_sound.proofs.Apart.{mix-of-all, plain-of-all, runs-apart}
use Rattle.pcm_sound.proofs.laws.runs_of_a_slot_lie_apart.Goals as goal

pub returns-clause-apart : goal.returns-clause-apart
returns-clause-apart c = runs-apart

pub returns-clause-mix : goal.returns-clause-mix
returns-clause-mix c = mix-of-all

pub returns-clause-plain : goal.returns-clause-plain
returns-clause-plain c = plain-of-all

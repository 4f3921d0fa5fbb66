use Rattle.pcm_sound.proofs.Pools.{longer-alike, longer-fits, story-alike}
use Rattle.pcm_sound.proofs.laws.alike_pools_tell_one_story.Goals as goal

pub returns-clause-story : goal.returns-clause-story
returns-clause-story c = story-alike

pub returns-clause-longer : goal.returns-clause-longer
returns-clause-longer c = longer-alike

pub returns-clause-fits : goal.returns-clause-fits
returns-clause-fits c = longer-fits

use Rattle.pcm_sound.proofs.Together.{start-in-story}
use Rattle.pcm_sound.proofs.laws.members_start_as_one.Goals as goal

pub returns : goal.returns
returns c = start-in-story

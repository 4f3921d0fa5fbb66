use Rattle.pcm_sound.proofs.OwnAreas.{area-in-story}
use Rattle.pcm_sound.proofs.laws.areas_go_alone.Goals as goal

pub returns : goal.returns
returns c = area-in-story

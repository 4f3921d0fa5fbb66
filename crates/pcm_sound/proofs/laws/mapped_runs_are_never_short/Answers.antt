use Rattle.pcm_sound.specs.Story.{story_of}
use Rattle.pcm_sound.proofs.Stories.{valid-story}
use Rattle.pcm_sound.proofs.Plain.{map-in_place}
use Rattle.pcm_sound.proofs.laws.mapped_runs_are_never_short.Goals as goal

pub returns : goal.returns
returns c = λ device pool events slot d fit. map-in_place device (story_of device pool events) slot (valid-story device pool events d fit)

use Rattle.pcm_sound.specs.Story.{story_of}
use Rattle.pcm_sound.proofs.Stories.{valid-story}
use Rattle.pcm_sound.proofs.Plain.{plain-body}
use Rattle.pcm_sound.proofs.laws.runs_are_heard_from_start_to_end.Goals as goal

pub returns : goal.returns
returns c = λ device pool events d fit unbroken. plain-body device (story_of device pool events) (valid-story device pool events d fit)
    unbroken

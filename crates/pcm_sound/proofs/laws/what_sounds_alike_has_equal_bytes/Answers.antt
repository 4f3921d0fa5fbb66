use Rattle.pcm_sound.specs.Story.{story_of}
use Rattle.pcm_sound.proofs.Stories.{valid-story}
use Rattle.pcm_sound.proofs.Plain.{alike-bodies}
use Rattle.pcm_sound.proofs.laws.what_sounds_alike_has_equal_bytes.Goals as goal

pub returns : goal.returns
returns c = λ device pool more events others d fit fit_too unbroken whole alike.
    alike-bodies device (story_of device pool events) (story_of device more others) (valid-story device pool events d fit)
    (valid-story device more others d fit_too) unbroken whole alike

use Rattle.pcm_sound.proofs.Recorded.{reads-front}
use Rattle.pcm_sound.proofs.laws.reads_get_what_is_recorded.Goals as goal

pub returns : goal.returns
returns c = λ device pool events slot d is fit running whole. reads-front device pool events slot d is fit running whole

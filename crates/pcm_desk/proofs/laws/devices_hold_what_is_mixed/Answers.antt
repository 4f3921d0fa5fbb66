use Rattle.pcm_desk.proofs.Passing.{here-is}
use Rattle.pcm_desk.proofs.laws.devices_hold_what_is_mixed.Goals as goal

pub returns : goal.returns
returns c = here-is

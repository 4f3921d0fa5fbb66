use Rattle.pcm_sound.proofs.AreasAlike.{areas-alike}
use Rattle.pcm_sound.proofs.OwnReplies.{clients-alike}
use Rattle.pcm_sound.proofs.laws.clients_are_told_alike.Goals as goal

pub returns-clause-replies : goal.returns-clause-replies
returns-clause-replies c = clients-alike

pub returns-clause-areas : goal.returns-clause-areas
returns-clause-areas c = areas-alike

-- Slot by slot.
use Rattle.pcm_rows.proofs.Unbroken.{behind-alike}
use Rattle.pcm_rows.proofs.plain.volume_behind_the_end_sounds_alike.Goals as goal

pub returns-clause-alike : goal.returns-clause-alike
returns-clause-alike c = behind-alike

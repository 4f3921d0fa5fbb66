-- Slot by slot.
use Rattle.pcm_rows.proofs.Unbroken.{whole-unbroken, brief-unbroken, brief-alike}
use Rattle.pcm_rows.proofs.plain.writes_sound_alike.Goals as goal

pub returns-clause-whole : goal.returns-clause-whole
returns-clause-whole c = whole-unbroken

pub returns-clause-brief : goal.returns-clause-brief
returns-clause-brief c = brief-unbroken

pub returns-clause-alike : goal.returns-clause-alike
returns-clause-alike c = brief-alike

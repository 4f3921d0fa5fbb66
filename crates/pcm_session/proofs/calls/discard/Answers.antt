use Rattle.std.proofs.Common.{rules}
use Rattle.pcm_session.proofs.calls.discard.Goals as goal

pub returns-in-Ok-clause-discards : goal.returns-in-Ok-clause-discards
returns-in-Ok-clause-discards g c = record { ready = c.step_unheard.ensures.ready; step = search rules; same = search rules }

pub returns-in-Err-clause-discards : goal.returns-in-Err-clause-discards
returns-in-Err-clause-discards g c = record { ready = c.step_unheard.ensures.ready; step = search rules; same = search rules }

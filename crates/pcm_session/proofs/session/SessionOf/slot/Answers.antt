use Rattle.std.proofs.Common.{arith}
use Rattle.std.proofs.lemmas.Grind.{common_steps}
use Rattle.pcm_session.proofs.session.SessionOf.slot.Goals as goal

pub slot_status-requires : goal.slot_status-requires
slot_status-requires g c = record { ready = c.requires; there = grind (arith, common_steps) }

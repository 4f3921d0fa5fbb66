use Rattle.std.proofs.Common.{ap}
use Rattle.pcm_engine_c.specs.declared.session.Session.{Session}
use Rattle.pcm_engine_c.proofs.Readiness.{ready-moved}
use Rattle.pcm_engine_c.proofs.dsp_raw_slot.Goals as goal

pub slot-requires : goal.slot-requires
slot-requires c = ready-moved _ _ _ c.in-Some.session.value.of.engine (ap (λ (session : Session). session.of.engine) c.deref.ensures)
    c.in-Some.ensures.ready

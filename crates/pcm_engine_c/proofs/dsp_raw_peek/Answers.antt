use Rattle.std.proofs.Common.{ap}
use Rattle.pcm_engine_c.specs.declared.session.Session.{Session}
use Rattle.pcm_engine_c.proofs.Readiness.{ready-moved}
use Rattle.pcm_engine_c.proofs.dsp_raw_peek.Goals as goal

pub peek-requires : goal.peek-requires
peek-requires c = ready-moved _ _ _ c.in-Some.session.value.of.engine (ap (λ (session : Session). session.of.engine) c.deref.ensures)
    c.in-Some.ensures.ready

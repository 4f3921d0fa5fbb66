use Rattle.std.proofs.Common.{ap}
use Rattle.pcm_engine_c.specs.declared.session.Session.{Session}
use Rattle.pcm_engine_c.proofs.Readiness.{ready-moved}
use Rattle.pcm_engine_c.proofs.dsp_raw_open.Goals as goal

pub open-number-requires : goal.open-number-requires
open-number-requires c = record {
  ready = ready-moved _ _ _ c.in-Some.session.value.of.engine
      (ap (λ (session : Session). session.of.engine) c.deref_mut.ensures.value) c.in-Some.ensures.ready;
}

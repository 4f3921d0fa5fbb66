use Rattle.std.proofs.Common.{ap}
use Rattle.pcm_engine_c.specs.declared.session.Session.{Session}
use Rattle.pcm_engine_c.proofs.Readiness.{ready-moved}
use Rattle.pcm_engine_c.proofs.dsp_raw_close.Goals as goal

pub close-number-requires : goal.close-number-requires
close-number-requires c = record {
  ready = ready-moved _ _ _ c.in-Some.session.value.of.engine
      (ap (λ (session : Session). session.of.engine) c.deref_mut.ensures.value) c.in-Some.ensures.ready;
}

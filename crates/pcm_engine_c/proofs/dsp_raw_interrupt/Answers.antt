use Rattle.std.proofs.Common.{ap, sym}
use Rattle.pcm_engine_c.specs.declared.session.Session.{Session}
use Rattle.pcm_engine_c.proofs.Readiness.{interrupts-moved, on-some, ready-moved}
use Rattle.pcm_engine_c.proofs.dsp_raw_interrupt.Goals as goal

pub interrupt-number-requires : goal.interrupt-number-requires
interrupt-number-requires c = record {
  ready = ready-moved _ _ _ c.in-Some.session.value.of.engine
      (ap (λ (session : Session). session.of.engine) c.deref_mut.ensures.value) c.in-Some.ensures.ready;
}

pub returns-clause-interrupts : goal.returns-clause-interrupts
returns-clause-interrupts c = on-some _ _ c.in-Some.session.value _ _ c.in-Some.ensures.value c.put.ensures
    (interrupts-moved _ _ _ _ _ c.in-Some.session.value.of c.deref_mut.result.now.of _
    (sym (ap (λ (session : Session). session.of) c.deref_mut.ensures.value)) c.interrupt-number.ensures.interrupts)

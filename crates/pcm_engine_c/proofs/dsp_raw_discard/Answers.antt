use Rattle.std.proofs.Common.{ap, sym}
use Rattle.pcm_engine_c.specs.declared.session.Session.{Session}
use Rattle.pcm_engine_c.proofs.Readiness.{discards-moved, on-some, ready-moved}
use Rattle.pcm_engine_c.proofs.dsp_raw_discard.Goals as goal

pub discard-number-requires : goal.discard-number-requires
discard-number-requires c = record {
  ready = ready-moved _ _ _ c.in-Some.session.value.of.engine
      (ap (λ (session : Session). session.of.engine) c.deref_mut.ensures.value) c.in-Some.ensures.ready;
}

pub returns-clause-discards : goal.returns-clause-discards
returns-clause-discards c = on-some _ _ c.in-Some.session.value _ _ c.in-Some.ensures.value c.put.ensures
    (discards-moved _ _ _ _ c.in-Some.session.value.of c.deref_mut.result.now.of _
    (sym (ap (λ (session : Session). session.of) c.deref_mut.ensures.value)) c.discard-number.ensures.discards)

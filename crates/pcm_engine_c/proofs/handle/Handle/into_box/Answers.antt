use Rattle.std.proofs.Common.{ap}
use Rattle.pcm_engine_c.specs.declared.session.Session.{Session}
use Rattle.pcm_engine_c.proofs.Readiness.{ready-moved}
use Rattle.pcm_engine_c.proofs.handle.Handle.into_box.Goals as goal

pub returns-then-there-clause-ready : goal.returns-then-there-clause-ready
returns-then-there-clause-ready c = ready-moved _ _ _ c.into_raw.result.value.of.engine
    (ap (λ (session : Session). session.of.engine) c.into_box.ensures.value) c.into_raw.ensures.1

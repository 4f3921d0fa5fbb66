use Rattle.std.proofs.Common.{ap}
use Rattle.pcm_engine_c.specs.declared.session.Session.{Session}
use Rattle.pcm_engine_c.proofs.Readiness.{ready-moved}
use Rattle.pcm_engine_c.proofs.handle.Handle.of.Goals as goal

pub of-requires-2 : goal.of-requires-2
of-requires-2 c = ready-moved _ _ _ c.args.session.value.of.engine (ap (λ (session : Session). session.of.engine) c.of.ensures.value)
    c.requires

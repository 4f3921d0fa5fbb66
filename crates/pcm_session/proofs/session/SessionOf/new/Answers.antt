use Rattle.std.proofs.Common.{[], sym, subst}
use Rattle.pcm_engine.specs.declared.engine.EngineOf.{EngineOf}
use Rattle.pcm_engine.specs.Engines.{Stands}
use Rattle.pcm_session.proofs.session.SessionOf.new.Goals as goal

pub returns-clause-stands : goal.returns-clause-stands
returns-clause-stands g c pool =
    subst (λ (engine : EngineOf g.row.B.Denot). Stands g.B.Feeder.kept engine pool []) (sym c.in_ok-session.ensures.0)
    (c.in_ok-engine.ensures.stands pool)

use Rattle.std.proofs.Common.{ap, sym, ◌∙◌, subst}
use Rattle.pcm_feeder.specs.Limits.{AreFilters}
use Rattle.pcm_engine_c.specs.declared.session.Session.{Session}
use Rattle.pcm_engine_c.proofs.Readiness.{new-moved, ready-moved}
use Rattle.pcm_engine_c.proofs.session.session_from.Goals as goal

pub new-requires-clause-limits : goal.new-requires-clause-limits
new-requires-clause-limits c = c.in-Some.ensures.limits c.in_ok-tables.tables (subst AreFilters c.tables.view_is c.tables.invariant)

pub returns-clause-made : goal.returns-clause-made
returns-clause-made c =
    new-moved _ _ _ _ _ _ c.in_ok-session.session.engine (ap (λ (session : Session). session.of.engine) c.in_ok-session-2.ensures.ok)
    (record {
      made = c.in-Some.device;
      tables = c.in_ok-tables.tables;
      made_is = sym c.device_from.ensures.value ∙ c.in-Some.is;
      tables_are = c.in_ok-tables.ensures;
      device_is = c.in_ok-session.ensures.device;
      handed = c.in_ok-session.ensures.handed;
      stands = c.in_ok-session.ensures.stands;
    })

pub returns-clause-ready : goal.returns-clause-ready
returns-clause-ready c = ready-moved _ _ _ c.in_ok-session.session.engine
    (ap (λ (session : Session). session.of.engine) c.in_ok-session-2.ensures.ok) c.in_ok-session.ensures.ready

use Rattle.std.proofs.Common.{refl, sym, subst}
use Rattle.pcm_engine.specs.Types.{Filters}
use Rattle.pcm_desk.specs.Device.{IsInLimits, seen}
use Rattle.std.specs.Prelude.{IfErr, IfOk}
use Rattle.pcm_engine.specs.declared.engine.EngineOf.{EngineOf}
use Rattle.pcm_engine.specs.declared.load_fault.LoadFault.TheVariants.{Memory}
use Rattle.pcm_engine.specs.Clones.{IsCloneOf}
use Rattle.pcm_engine.specs.LoadFaults.{IsCause}
use Rattle.pcm_engine.specs.Saved.{HasState, IsEngineOf}
use Rattle.pcm_engine.proofs.Taken.{memory-cause, refused-as}
use Rattle.pcm_engine.proofs.engine.EngineOf.try_load.Goals as goal

pub load-requires : goal.load-requires
load-requires g c = record {
  limits = subst (λ (filters : Filters). IsInLimits (seen filters c.args.self.now.parent.device)) (sym c.in_ok-tables.ensures) c.requires.ready.limits;
  kinds = c.requires.kinds;
}

pub returns-clause-clone : goal.returns-clause-clone
returns-clause-clone g c =
    subst (λ (filters : Filters). IfOk c.load.result (λ loaded. (engine : EngineOf _) → IsEngineOf c.args.self.now.parent.device filters engine
    → HasState g.B.Feeder.kind g.B.Feeder.kept c.args.bytes.now engine → IsCloneOf g.B.Feeder.kind g.B.Feeder.kept engine loaded)) c.in_ok-tables.ensures c.load.ensures.clone

pub returns-in_err-tables-clause-cause : goal.returns-in_err-tables-clause-cause
returns-in_err-tables-clause-cause g c =
    let engine = c.args.self.now in
    refused-as _ Memory c.from_residual.result c.from_residual.ensures.1 (memory-cause g.B.Feeder.kind g.B.Feeder.kept engine.parent.device engine.tables c.args.bytes.now Memory refl)

pub returns-clause-cause : goal.returns-clause-cause
returns-clause-cause g c =
    subst (λ (filters : Filters). IfErr c.load.result (IsCause g.B.Feeder.kind g.B.Feeder.kept c.args.self.now.parent.device filters c.args.bytes.now)) c.in_ok-tables.ensures c.load.ensures.cause

use Rattle.std.proofs.Common.{refl, sym, subst}
use Rattle.pcm_engine.specs.declared.load_fault.LoadFault.TheVariants.{Memory}
use Rattle.pcm_engine.proofs.Taken.{memory-cause, refused-as}
use Rattle.pcm_session.specs.States.{GoesOnFrom}
use Rattle.pcm_session.proofs.session.SessionOf.try_load.Goals as goal

pub returns-clause-goes : goal.returns-clause-goes
returns-clause-goes g c =
    let made = c.in_ok-session.ensures in
    let loaded = c.in_ok-engine.ensures in (
      subst (GoesOnFrom g.B.Feeder.kind g.B.Feeder.kept c.args.bytes.now c.args.self.now.engine) (sym made.0)
          (record { state = loaded.state; device = loaded.device; clone = loaded.clone }),
      made.1,
    )

pub returns-in_err-engine-clause-cause : goal.returns-in_err-engine-clause-cause
returns-in_err-engine-clause-cause g c = refused-as _ c.in_err-engine.field-0.0 c.from_residual.result c.from_residual.ensures.1 c.in_err-engine.ensures.cause

pub returns-in_err-session-clause-cause : goal.returns-in_err-session-clause-cause
returns-in_err-session-clause-cause g c =
    let engine = c.args.self.now.engine in
    refused-as _ Memory c.from_residual-in_err-session.result c.from_residual-in_err-session.ensures.1 (memory-cause g.B.Feeder.kind g.B.Feeder.kept engine.parent.device engine.tables c.args.bytes.now Memory refl)

use Rattle.std.proofs.Common.{length, refl, sym}
use Rattle.pcm_session.proofs.Taken.{can-step}
use Rattle.pcm_session.proofs.session.SessionOf.step.Goals as goal

pub step_with-count-requires : goal.step_with-count-requires
step_with-count-requires g c =
    let engine = c.args.self.now.engine in
    let can = can-step g.B.Feeder.kind g.B.Feeder.kept engine c.args.event.now c.args.bytes.now (length c.args.samples.now) c.args.out.now _
    (sym c.if-not-takes.ensures) refl c.requires.ready in
    record { samples = can.0; can = can.1 }

pub returns-clause-step : goal.returns-clause-step
returns-clause-step g c = record { rules = c.step_with-count.ensures.stepped.rules; called = c.step_with-count.ensures.called }

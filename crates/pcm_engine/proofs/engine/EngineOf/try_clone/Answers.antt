use Rattle.std.proofs.Common.{sym, subst}
use Rattle.pcm_engine.specs.Types.{Filters}
use Rattle.pcm_vchan.specs.Parents.{AreServed}
use Rattle.pcm_engine.proofs.Cloning.{clone-in-order, clone-like, clone-stands}
use Rattle.pcm_engine.proofs.InOrder.{served}
use Rattle.pcm_engine.specs.Engines.{device_of}
use Rattle.pcm_engine.proofs.engine.EngineOf.try_clone.Goals as goal

pub try_clone-requires-clause-served : goal.try_clone-requires-clause-served
try_clone-requires-clause-served g c =
    subst (λ (filters : Filters). AreServed g.B.Feeder.kind g.B.Feeder.kept filters c.args.self.now.parent) (sym c.in_ok-tables.ensures)
    (served c.requires.ready)

pub invariant_of-result-clause-order : goal.invariant_of-result-clause-order
invariant_of-result-clause-order g c =
    let engine = c.args.self.now in
    clone-in-order g.B.Feeder.kind g.B.Feeder.kept (device_of engine) engine.parent c.in_ok-parent.parent engine.descriptors c.in_ok-descriptors.descriptors
    (clone-like g.B.Feeder.kind g.B.Feeder.kept (device_of engine) engine.parent c.in_ok-parent.parent c.in_ok-parent.ensures.clone) c.in_ok-descriptors.ensures.held c.in_ok-descriptors.ensures.groups engine.order

pub returns-clause-clone : goal.returns-clause-clone
returns-clause-clone g c =
    let engine = c.args.self.now in
    clone-stands g.B.Feeder.kind g.B.Feeder.kept engine _
    (clone-like g.B.Feeder.kind g.B.Feeder.kept (device_of engine) engine.parent c.in_ok-parent.parent c.in_ok-parent.ensures.clone) c.in_ok-tables.ensures
    c.in_ok-descriptors.ensures.held c.in_ok-descriptors.ensures.groups c.requires.ready

pub returns-clause-racks : goal.returns-clause-racks
returns-clause-racks g c = c.in_ok-parent.ensures.racks

use Rattle.std.proofs.Common.{rules, List, ℕ, ℤ, length, take, ap, ◌∙◌}
use Rattle.pcm_engine.proofs.Called.{padded-called, steps-as-called}
use Rattle.pcm_engine.proofs.Stepping.{stepped-applied}
use Rattle.pcm_engine.proofs.engine.EngineOf.step_with.Goals as goal

pub apply-requires : goal.apply-requires
apply-requires g c =
    let can = c.requires.can in
    record { within = can.within; bytes = can.bytes; step = record { ready = search rules; room = can.step.room; life = can.step.life } }

pub returns : goal.returns
returns g c =
    let old = c.args.self.now in
    let event = c.args.event.now in
    let made = c.apply.ensures in
    record {
      stepped = stepped-applied g.B.Feeder.kind g.B.Feeder.kept event _ _ old _ _ made.applied made.tables c.requires.can.within
          c.requires.can.step.ready _ _ _ made.out.size_is made.out.rest;
      called = λ pool named called.
          steps-as-called g.B.Feeder.kind g.B.Feeder.kept event _ _ old _ _ _ made.applied made.tables
          (made.out.front ∙ ap (λ (n : ℕ). take n old.parent.ring.bytes) made.out.size_is) c.requires.can.step.ready pool named
          (padded-called old pool event named c.args.bytes.now c.args.samples.now _ c.samples_asked-count.result
          c.samples_asked-count.ensures
          (c.pad.ensures.length ∙ ap (λ (samples : List ℤ). length samples) c.deref_mut.ensures.value) c.pad.ensures.padded called);
    }

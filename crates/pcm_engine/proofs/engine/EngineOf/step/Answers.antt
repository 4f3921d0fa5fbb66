use Rattle.std.proofs.Common.{rules, List, ℕ, ℤ, length, take, ap, ◌∙◌}
use Rattle.pcm_engine.specs.Engines.{device_of}
use Rattle.pcm_engine.proofs.Bringing.{allowed-fits, length-brought, named-fits}
use Rattle.pcm_engine.proofs.Called.{loaded-called, steps-as-called}
use Rattle.pcm_engine.proofs.Stepping.{stepped-applied}
use Rattle.pcm_engine.proofs.engine.EngineOf.step.Goals as goal

pub apply-requires : goal.apply-requires
apply-requires g c =
    let can = c.requires.can in
    let device = device_of c.args.self.now in
    record {
      within = allowed-fits device c.args.pool.now c.args.event.now c.requires.fits;
      bytes = ap (λ (bytes : List ℕ). length bytes) c.bytes_brought.ensures
          ∙ length-brought c.args.pool.now c.args.event.now (named-fits device c.args.pool.now c.args.event.now c.requires.fits);
      step = record { ready = search rules; room = can.room; life = can.life };
    }

pub returns : goal.returns
returns g c =
    let old = c.args.self.now in
    let event = c.args.event.now in
    let made = c.apply.ensures in
    let loaded = loaded-called old c.args.pool.now event _ _ c.requires.fits c.requires.captures c.bytes_brought.ensures
    (c.load_brought.ensures.length ∙ ap (λ (samples : List ℤ). length samples) c.deref_mut.ensures.value) c.load_brought.ensures.loaded in
    record {
      stepped = stepped-applied g.B.Feeder.kind g.B.Feeder.kept event _ _ old _ _ made.applied made.tables
          (allowed-fits (device_of old) c.args.pool.now event c.requires.fits) c.requires.can.ready _ _ _ made.out.size_is made.out.rest;
      told = steps-as-called g.B.Feeder.kind g.B.Feeder.kept event _ _ old _ _ _ made.applied made.tables
          (made.out.front ∙ ap (λ (n : ℕ). take n old.parent.ring.bytes) made.out.size_is) c.requires.can.ready c.args.pool.now event
          loaded;
    }

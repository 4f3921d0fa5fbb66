use Rattle.std.proofs.Common.{◌≡◌, ℕ, length, refl, sym, ◌∙◌, subst, arith}
use Rattle.pcm_desk.specs.declared.limits.TheConstants.{EVENTS}
use Rattle.pcm_desk.specs.Device.{DeviceSeen}
use Rattle.pcm_engine.specs.Engines.{device_of}
use Rattle.pcm_inputs.specs.Outside.{outside}
use Rattle.pcm_replay.specs.Playback.{playback}
use Rattle.pcm_soak_command.specs.Running.{CanRun}
use Rattle.pcm_replay.specs.Playing.{HasPlayed}
use Rattle.pcm_replay.specs.Turns.{CutsNext, WritesFirst, WritesNext}
use Rattle.pcm_replay.proofs.Turns.{first-more, first-none}
use Rattle.pcm_replay.proofs.playing.play.Goals as goal

pub loop-at-init : goal.loop-at-init
loop-at-init g c = record {
  played = c.requires.played;
  device_is = refl;
  first = first-none (playback (device_of c.args.replay.now.engine) c.args.pool.now c.args.events.now) _ c.requires.created refl;
}

-- the device of the engine is the one that can be stepped through the events
pub play_at-requires : goal.play_at-requires
play_at-requires g c = record {
  created = c.loop-at.invariant.first.only.files.stands;
  next = record {
    there = omega arith;
    runs = subst (λ (device : DeviceSeen). CanRun EVENTS device c.args.pool.now c.args.events.now) (sym c.loop-at.invariant.device_is)
        c.requires.events;
    played = c.loop-at.invariant.played;
  };
}

-- an event was cut short, after those so far
pub returns-in_default-clause-err : goal.returns-in_default-clause-err
returns-in_default-clause-err g c = record {
  done = c.loop-at.at;
  between = outside (g.F.Files.seen c.loop-at.files) (g.K.Sink.seen c.loop-at.out);
  first = c.loop-at.invariant.first;
  only = c.in_default.ensures.only;
  next = subst (λ (device : DeviceSeen). CutsNext (playback device c.args.pool.now c.args.events.now) c.loop-at.at
      (outside (g.F.Files.seen c.loop-at.files) (g.K.Sink.seen c.loop-at.out))
      (outside (g.F.Files.seen c.play_at.new.files) (g.K.Sink.seen c.play_at.new.out)))
      c.loop-at.invariant.device_is c.in_default.ensures.err;
}

-- one event more left all that it was to leave
pub loop-at-preserved : goal.loop-at-preserved
loop-at-preserved g c = record {
  played = c.in-Ok.ensures.played;
  device_is = c.in-Ok.ensures.device ∙ c.loop-at.invariant.device_is;
  first = first-more (playback (device_of c.args.replay.now.engine) c.args.pool.now c.args.events.now) c.loop-at.at _ _ _
      c.loop-at.invariant.first c.in-Ok.ensures.only
      (subst (λ (device : DeviceSeen). WritesNext (playback device c.args.pool.now c.args.events.now) c.loop-at.at
      (outside (g.F.Files.seen c.loop-at.files) (g.K.Sink.seen c.loop-at.out))
      (outside (g.F.Files.seen c.play_at.new.files) (g.K.Sink.seen c.play_at.new.out)))
      c.loop-at.invariant.device_is c.in-Ok.ensures.ok);
}

-- after the last event all were run
pub returns-clause-played : goal.returns-clause-played
returns-clause-played g c =
    let all : c.loop-at.at ≡ length c.args.events.now = omega arith in
    subst (λ (done : ℕ). HasPlayed g.B.Feeder.kind g.B.Feeder.kept c.loop-at.replay c.args.pool.now c.args.events.now done) all
    c.loop-at.invariant.played

pub returns-clause-device : goal.returns-clause-device
returns-clause-device g c = c.loop-at.invariant.device_is

pub returns-clause-ok : goal.returns-clause-ok
returns-clause-ok g c =
    let all : c.loop-at.at ≡ length c.args.events.now = omega arith in
    subst (λ (done : ℕ). WritesFirst (playback (device_of c.args.replay.now.engine) c.args.pool.now c.args.events.now) done
    (outside (g.F.Files.seen c.args.files.now) (g.K.Sink.seen c.args.out.now))
    (outside (g.F.Files.seen c.loop-at.files) (g.K.Sink.seen c.loop-at.out)))
    all c.loop-at.invariant.first

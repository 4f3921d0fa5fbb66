use Rattle.std.proofs.Common.{refl}
use Rattle.pcm_engine.specs.Engines.{device_of}
use Rattle.pcm_replay.specs.Cuts.{RunInHeader}
use Rattle.pcm_inputs.specs.Outside.{outside}
use Rattle.pcm_replay.specs.Playback.{playback}
use Rattle.pcm_convert_command.proofs.Appending.{has_written, rose_later}
use Rattle.pcm_inputs.proofs.Refusing.{on-err, on-ok}
use Rattle.pcm_replay.proofs.Turns.{cut-events, written-events}
use Rattle.pcm_replay.proofs.playing.play_into.Goals as goal

-- the header was cut short
pub returns-in_default-append_some-clause-err : goal.returns-in_default-append_some-clause-err
returns-in_default-append_some-clause-err g c =
    let created = c.in-Ok.ensures in
    let failed = c.in_default-append_some.ensures.err in
    RunInHeader (record {
      rose = rose_later _ _ _ created.ok.write_faults failed.rose;
      part = failed.part;
      front = failed.front;
      file = has_written c.args.name.now failed.part _ _ _ created.only created.ok failed.grows;
      sink = refl {a = g.K.Sink.seen c.args.out.now};
    })

pub returns-clause-ok : goal.returns-clause-ok
returns-clause-ok g c =
    on-ok c.play.result c.play.ensures.ok
    (written-events c.args.name.now c.args.head.now (playback (device_of c.args.replay.now.engine) c.args.pool.now c.args.events.now)
    (outside (g.F.Files.seen c.args.files.now) (g.K.Sink.seen c.args.out.now))
    (outside (g.F.Files.seen c.play.new.files) (g.K.Sink.seen c.play.new.out))
    (g.F.Files.seen c.create.new.self) (g.F.Files.seen c.append_some.new.files)
    (record {
      only = c.in-Ok.ensures.only;
      creates = c.in-Ok.ensures.ok;
      head_only = c.in-Ok-append_some.ensures.only;
      head_appended = c.in-Ok-append_some.ensures.ok;
    }))

-- an event was cut short
pub returns-clause-err : goal.returns-clause-err
returns-clause-err g c =
    on-err c.play.result c.play.ensures.err
    (cut-events c.args.name.now c.args.head.now (playback (device_of c.args.replay.now.engine) c.args.pool.now c.args.events.now)
    (outside (g.F.Files.seen c.args.files.now) (g.K.Sink.seen c.args.out.now))
    (outside (g.F.Files.seen c.play.new.files) (g.K.Sink.seen c.play.new.out))
    (g.F.Files.seen c.create.new.self) (g.F.Files.seen c.append_some.new.files)
    (record {
      only = c.in-Ok.ensures.only;
      creates = c.in-Ok.ensures.ok;
      head_only = c.in-Ok-append_some.ensures.only;
      head_appended = c.in-Ok-append_some.ensures.ok;
    }))

use Rattle.std.proofs.Common.{List, sym, ◌∙◌, subst}
use Rattle.pcm_oss.specs.declared.event.Event.{Event}
use Rattle.pcm_wave.specs.declared.pool.Pool.{Pool}
use Rattle.pcm_desk.specs.declared.limits.TheConstants.{EVENTS}
use Rattle.pcm_desk.specs.Device.{DeviceSeen}
use Rattle.pcm_config.specs.Configs.{device_seen}
use Rattle.pcm_script.proofs.Fitting.{AllFit-captured}
use Rattle.pcm_verdict.specs.Captures.{capture_place}
use Rattle.pcm_engine.specs.Engines.{device_of}
use Rattle.pcm_verdict.specs.Outputs.{inputs_pool}
use Rattle.pcm_replay.specs.Cuts.{CutsRun}
use Rattle.pcm_inputs.specs.Outside.{outside}
use Rattle.pcm_inputs.specs.Parts.{inputs_seen}
use Rattle.pcm_replay.specs.Playback.{playback}
use Rattle.pcm_soak_command.specs.Running.{CanRun}
use Rattle.pcm_replay.specs.Playing.{output_played}
use Rattle.pcm_convert_command.specs.Written.{WritesAll}
use Rattle.pcm_replay.proofs.Turns.{playback-same, run-same}
use Rattle.pcm_replay.proofs.running.run_script.Goals as goal

-- the engine's device can be stepped through the events
pub play_into-requires-clause-events : goal.play_into-requires-clause-events
play_into-requires-clause-events g c =
    let inputs = c.args.inputs in
    let device : DeviceSeen = device_seen inputs.config in
    let pool : Pool = inputs_pool (inputs_seen inputs) in
    let runs : CanRun EVENTS device pool inputs.script.events = record {
      fits = AllFit-captured device inputs.files inputs.script (capture_place inputs.config.capture inputs.files) c.requires.fits;
      captures = c.requires.captures;
      count = c.requires.count;
    } in
    subst (λ (d : DeviceSeen). CanRun EVENTS d c.pool_from-pool.result c.as_slice-events.result.now) (sym c.in-Ok.ensures.device)
    (subst (λ (p : Pool). CanRun EVENTS device p c.as_slice-events.result.now) (sym c.pool_from-pool.ensures)
    (subst (λ (events : List Event). CanRun EVENTS device pool events) (sym c.as_slice-events.ensures) runs))

pub play_into-requires-clause-played : goal.play_into-requires-clause-played
play_into-requires-clause-played g c = c.in-Ok.ensures.played c.pool_from-pool.result

-- what it was to leave was cut short
pub returns-in_default-play_into-clause-err : goal.returns-in_default-play_into-clause-err
returns-in_default-play_into-clause-err g c =
    run-same (λ head one. CutsRun c.args.name.now head one (outside (g.F.Files.seen c.args.files.now) (g.K.Sink.seen c.args.out.now))
    (outside (g.F.Files.seen c.play_into.new.files) (g.K.Sink.seen c.play_into.new.out)))
    c.deref.result.now (playback (device_of c.in-Ok.replay.engine) c.pool_from-pool.result c.as_slice-events.result.now)
    (inputs_seen c.args.inputs)
    (c.deref.ensures.value ∙ c.in_ok-head.ensures.ok c.args.inputs.config.tables)
    (playback-same (device_of c.in-Ok.replay.engine) c.pool_from-pool.result c.as_slice-events.result.now (inputs_seen c.args.inputs)
    c.in-Ok.ensures.device c.pool_from-pool.ensures c.as_slice-events.ensures)
    c.in_default-play_into.ensures.err

pub returns-clause-ok : goal.returns-clause-ok
returns-clause-ok g c =
    run-same (λ head one. WritesAll (output_played c.args.name.now head one)
    (outside (g.F.Files.seen c.args.files.now) (g.K.Sink.seen c.args.out.now))
    (outside (g.F.Files.seen c.play_into.new.files) (g.K.Sink.seen c.play_into.new.out)))
    c.deref.result.now (playback (device_of c.in-Ok.replay.engine) c.pool_from-pool.result c.as_slice-events.result.now)
    (inputs_seen c.args.inputs)
    (c.deref.ensures.value ∙ c.in_ok-head.ensures.ok c.args.inputs.config.tables)
    (playback-same (device_of c.in-Ok.replay.engine) c.pool_from-pool.result c.as_slice-events.result.now (inputs_seen c.args.inputs)
    c.in-Ok.ensures.device c.pool_from-pool.ensures c.as_slice-events.ensures)
    c.in-Ok-play_into.ensures.ok

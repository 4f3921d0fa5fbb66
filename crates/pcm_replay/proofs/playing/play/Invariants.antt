use Rattle.pcm_engine.specs.Engines.{device_of}
use Rattle.pcm_inputs.specs.Outside.{outside}
use Rattle.pcm_replay.proofs.Turns.{IsPlaying}
use Rattle.pcm_replay.proofs.playing.play.Given as goal

-- the events so far were run, and left all that they were to leave
abbrev pub invariant-loop-at : goal.invariant-loop-at
invariant-loop-at g l =
    IsPlaying g.B.Feeder.kind g.B.Feeder.kept l.replay (device_of l.fn.replay.engine) l.pool l.events l.at
    (outside (g.F.Files.seen l.fn.files) (g.K.Sink.seen l.fn.out)) (outside (g.F.Files.seen l.files) (g.K.Sink.seen l.out))

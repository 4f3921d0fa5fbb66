use Rattle.std.proofs.Common.{◌≤◌, ◌-◌}
use Rattle.pcm_map.specs.Pieces.{MapGives}
use Rattle.pcm_map.proofs.channel.MapChannelOf.give.Given as goal

-- the first `done` frames were given
abbrev pub invariant-loop-done : goal.invariant-loop-done
invariant-loop-done g l = record {
  within : l.done ≤ l.fn.n;
  gives : MapGives g.B.Feeder.kind g.B.Feeder.kept l.fn.tables l.done l.fn.self l.self l.frames;
}

abbrev pub decreases-loop-done : goal.decreases-loop-done
decreases-loop-done g l = l.n - l.done

use Rattle.std.proofs.Common.{take}
use Rattle.pcm_soak_command.specs.Soaking.{HasSoaked}
use Rattle.pcm_soak_command.proofs.soak.soak_through.Given as goal

-- the events so far were run
abbrev pub invariant-loop-at : goal.invariant-loop-at
invariant-loop-at g l = HasSoaked g.B.Feeder.kind g.B.Feeder.kept l.soak l.pool (take l.at l.events)

use Rattle.std.proofs.Common.{◌≡◌, take}
use Rattle.pcm_replay.specs.Playing.{greatest_taken}
use Rattle.pcm_replay.proofs.replay.greatest_taken.Given as goal

-- the greatest of the events so far
abbrev pub invariant-loop-event : goal.invariant-loop-event
invariant-loop-event l = l.most ≡ greatest_taken (take l.event-index l.events)

use Rattle.pcm_engine.specs.Judged.{play_waits}
use Rattle.pcm_engine.proofs.Tested.{WaitBelow}
use Rattle.pcm_engine.proofs.places.play_members_wait.Given as goal

-- The members below the index wait.
abbrev pub invariant-loop-slot : goal.invariant-loop-slot
invariant-loop-slot g l = WaitBelow l.slot (λ channel. play_waits channel.book) l.groups l.channels

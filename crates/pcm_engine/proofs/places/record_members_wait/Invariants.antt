use Rattle.pcm_engine.specs.Judged.{record_waits}
use Rattle.pcm_engine.proofs.Tested.{WaitBelow}
use Rattle.pcm_engine.proofs.places.record_members_wait.Given as goal

-- The members below the index wait.
abbrev pub invariant-loop-slot : goal.invariant-loop-slot
invariant-loop-slot g l = WaitBelow l.slot (λ channel. record_waits channel.book) l.groups l.channels

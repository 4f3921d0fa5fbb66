use Rattle.pcm_engine.proofs.Tested.{ApartBelow}
use Rattle.pcm_engine.proofs.places.are_apart.Given as goal

-- No two numbers below the index are one.
abbrev pub invariant-loop-fd : goal.invariant-loop-fd
invariant-loop-fd l = ApartBelow l.fd l.numbers

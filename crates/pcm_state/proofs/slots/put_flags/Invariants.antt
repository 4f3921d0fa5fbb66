use Rattle.std.proofs.Common.{◌≡◌, take, map}
use Rattle.pcm_state.specs.OpeningRows.{flag}
use Rattle.pcm_state.proofs.slots.put_flags.Given as goal

-- the first are put
abbrev pub invariant-loop-slot : goal.invariant-loop-slot
invariant-loop-slot l = take l.slot l.out ≡ map flag (take l.slot l.flags)

use Rattle.std.proofs.Common.{◌≡◌, take, length}
use Rattle.pcm_oss.specs.declared.event.TheConstants.{SLOTS}
use Rattle.pcm_state.proofs.slots.words.Given as goal

-- the first are taken
abbrev pub invariant-loop-slot : goal.invariant-loop-slot
invariant-loop-slot l = (take l.slot l.words ≡ take l.slot l.numbers) × (length l.words ≡ SLOTS)

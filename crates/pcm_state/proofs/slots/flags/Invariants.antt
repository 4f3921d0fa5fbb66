use Rattle.std.proofs.Common.{◌≡◌, take, map, length}
use Rattle.pcm_state.specs.OpeningRows.{flag}
use Rattle.pcm_oss.specs.declared.event.TheConstants.{SLOTS}
use Rattle.pcm_state.proofs.slots.flags.Given as goal

-- the first are taken
abbrev pub invariant-loop-slot : goal.invariant-loop-slot
invariant-loop-slot l = (map flag (take l.slot l.flags) ≡ take l.slot l.numbers) × (length l.flags ≡ SLOTS)

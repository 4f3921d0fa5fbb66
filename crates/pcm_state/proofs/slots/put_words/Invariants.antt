use Rattle.std.proofs.Common.{◌≡◌, take, All}
use Rattle.pcm_state.specs.OpeningRows.{IsWord}
use Rattle.pcm_state.proofs.slots.put_words.Given as goal

-- the first are put, and have 32 bits
abbrev pub invariant-loop-slot : goal.invariant-loop-slot
invariant-loop-slot l = (take l.slot l.out ≡ take l.slot l.words) × All IsWord (take l.slot l.words)

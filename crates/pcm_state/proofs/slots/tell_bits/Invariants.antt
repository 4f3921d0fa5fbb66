use Rattle.std.proofs.Common.{take, All}
use Rattle.pcm_state.specs.OpeningRows.{IsWord}
use Rattle.pcm_state.proofs.slots.tell_bits.Given as goal

-- those that were looked at have 32 bits
abbrev pub invariant-loop-word : goal.invariant-loop-word
invariant-loop-word l = All IsWord (take l.word-index l.words)

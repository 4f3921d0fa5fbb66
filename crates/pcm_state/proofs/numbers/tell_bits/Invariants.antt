use Rattle.std.proofs.Common.{take, All}
use Rattle.pcm_state.specs.Numbers.{IsNumber}
use Rattle.pcm_state.proofs.numbers.tell_bits.Given as goal

-- those that were looked at have 64 bits
abbrev pub invariant-loop-number : goal.invariant-loop-number
invariant-loop-number l = All IsNumber (take l.number-index l.numbers)

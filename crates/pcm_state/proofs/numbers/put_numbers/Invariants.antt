use Rattle.std.proofs.Common.{◌≡◌, ◌*◌, take}
use Rattle.pcm_state.specs.Numbers.{spelled_numbers}
use Rattle.pcm_state.proofs.numbers.put_numbers.Given as goal

-- the first numbers are spelled
abbrev pub invariant-loop-i : goal.invariant-loop-i
invariant-loop-i l = take (8 * l.i) l.out ≡ spelled_numbers (take l.i l.numbers)

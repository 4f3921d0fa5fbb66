use Rattle.std.proofs.Common.{◌≡◌, ◌*◌, take}
use Rattle.pcm_state.specs.Numbers.{spelled_numbers}
use Rattle.pcm_state.proofs.numbers.load_numbers.Given as goal

-- the first numbers are loaded
abbrev pub invariant-loop-i : goal.invariant-loop-i
invariant-loop-i l = spelled_numbers (take l.i l.out) ≡ take (8 * l.i) l.bytes

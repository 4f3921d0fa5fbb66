use Rattle.std.proofs.Common.{◌≡◌, take}
use Rattle.pcm_state.specs.HeldRows.{held_row}
use Rattle.pcm_state.proofs.held.load_held.Given as goal

-- the first are loaded
abbrev pub invariant-loop-fd : goal.invariant-loop-fd
invariant-loop-fd l = held_row (take l.fd l.out) ≡ take l.fd l.numbers

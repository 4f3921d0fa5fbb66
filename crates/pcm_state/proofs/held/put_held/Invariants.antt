use Rattle.std.proofs.Common.{◌≡◌, take}
use Rattle.pcm_state.specs.HeldRows.{held_row}
use Rattle.pcm_state.proofs.held.put_held.Given as goal

-- the first are put
abbrev pub invariant-loop-fd : goal.invariant-loop-fd
invariant-loop-fd l = take l.fd l.out ≡ held_row (take l.fd l.held)

use Rattle.std.proofs.Common.{◌≡◌, ◌++◌, take, drop}
use Rattle.pcm_group.specs.Groups.{dissolved_in}
use Rattle.pcm_group.proofs.sync_groups.dissolve_in.Given as goal

-- After the slots that were looked at come those that are still to be.
abbrev pub invariant-loop-slot : goal.invariant-loop-slot
invariant-loop-slot l = take l.slot l.slots ++ dissolved_in l.group (drop l.slot l.slots) ≡ dissolved_in l.group l.fn.slots

use Rattle.std.proofs.Common.{◌≡◌, ◌≤◌, ◌-◌, length, take, drop, ◌++◌}
use Rattle.pcm_mix.specs.Mix.{mixed}
use Rattle.pcm_mix.proofs.mix.mix_lanes.Given as goal

abbrev pub invariant-loop-acc : goal.invariant-loop-acc
invariant-loop-acc l = (l.at ≤ length l.fn.acc) × (l.acc ≡ mixed l.limits.bits (take l.at l.fn.acc) (take l.at l.fn.add) ++ drop l.at l.fn.acc)

abbrev pub decreases-loop-acc : goal.decreases-loop-acc
decreases-loop-acc l = length l.acc - l.at

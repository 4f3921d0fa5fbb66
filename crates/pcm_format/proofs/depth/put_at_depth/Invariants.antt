use Rattle.std.proofs.Common.{◌≡◌, map, take}
use Rattle.pcm_format.specs.Samples.{at_depth}
use Rattle.pcm_format.proofs.depth.put_at_depth.Given as goal

-- the first samples are brought
abbrev pub invariant-loop-i : goal.invariant-loop-i
invariant-loop-i l = take l.i l.out ≡ map (at_depth l.bits) (take l.i l.samples)

use Rattle.std.proofs.Common.{◌≡◌, take, map}
use Rattle.std.specs.List.{range_with_len}
use Rattle.pcm_format.specs.Samples.{sample_at}
use Rattle.pcm_format.proofs.frame.load_each.Given as goal

-- the first samples are loaded
abbrev pub invariant-loop-i : goal.invariant-loop-i
invariant-loop-i l = take l.i l.out ≡ map (sample_at l.f l.bytes) (range_with_len 0 l.i)

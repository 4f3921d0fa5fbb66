use Rattle.std.proofs.Common.{◌≡◌, ◌*◌, take}
use Rattle.pcm_state.specs.Samples.{sample_bytes}
use Rattle.pcm_state.proofs.samples.put_samples.Given as goal

-- the first samples are spelled
abbrev pub invariant-loop-i : goal.invariant-loop-i
invariant-loop-i l = take (4 * l.i) l.out ≡ sample_bytes (take l.i l.samples)

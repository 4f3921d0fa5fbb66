use Rattle.std.proofs.Common.{◌≡◌, ◌*◌, take}
use Rattle.pcm_state.specs.Samples.{sample_bytes}
use Rattle.pcm_state.proofs.samples.load_samples.Given as goal

-- the first samples are loaded
abbrev pub invariant-loop-i : goal.invariant-loop-i
invariant-loop-i l = sample_bytes (take l.i l.out) ≡ take (4 * l.i) l.bytes

use Rattle.std.proofs.Common.{◌≡◌, ℕ, ◌-◌, ◌<◌, ◌≤◌, ◌%◌, length, get_or}
use Rattle.std.specs.Prelude.{slice_index_or}
use Rattle.pcm_map.proofs.area.repeat.Given as goal

abbrev pub decreases-loop-filled : goal.decreases-loop-filled
decreases-loop-filled l = length l.bytes - l.filled

-- the bytes that are filled are the sample's, a whole number of it as long as there is more to fill
abbrev pub invariant-loop-filled : goal.invariant-loop-filled
invariant-loop-filled l = record {
  size : length l.bytes ≡ length l.fn.bytes;
  some : l.filled < length l.bytes → 0 < l.filled;
  within : l.filled ≤ length l.bytes;
  whole : l.filled < length l.bytes → l.filled % length l.fn.sample ≡ 0;
  repeated : (k : ℕ) → k < l.filled → get_or l.bytes k 0 ≡ slice_index_or l.fn.sample (k % length l.fn.sample) 0;
}

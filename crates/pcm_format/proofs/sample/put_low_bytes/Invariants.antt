use Rattle.std.proofs.Common.{◌≡◌, ◌-◌, ◌++◌, take, length}
use Rattle.pcm_format.specs.Samples.{low_bytes}
use Rattle.pcm_format.proofs.sample.put_low_bytes.Given as goal

-- what was written, and the low bytes of the rest, are the low bytes of the number
abbrev pub invariant-loop-byte : goal.invariant-loop-byte
invariant-loop-byte l = take l.byte-index l.out ++ low_bytes (length l.out - l.byte-index) l.rest ≡ low_bytes (length l.out) l.number

use Rattle.std.proofs.Common.{◌≡◌, map}
use Rattle.std.specs.List.{range_with_len}
use Rattle.pcm_soak.specs.Soak.{inline_byte}
use Rattle.pcm_soak.proofs.script.inline_bytes.Given as goal

-- the first bytes are there
abbrev pub invariant-loop-j : goal.invariant-loop-j
invariant-loop-j l = l.bytes.items ≡ map (inline_byte l.n) (range_with_len 0 l.j)

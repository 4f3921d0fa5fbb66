use Rattle.std.proofs.Common.{◌≡◌, ◌+◌, ◌*◌, ◌≤◌, take}
use Rattle.pcm_soak.specs.Tallies.{total}
use Rattle.pcm_soak.proofs.tally.Tally.hear.Given as goal

-- the first bytes were added
abbrev pub invariant-loop-byte : goal.invariant-loop-byte
invariant-loop-byte l = record {
  heard : l.self ≡ record l.initial.self { sum = l.initial.self.sum + total (take l.byte-index l.bytes) };
  few : total (take l.byte-index l.bytes) ≤ 255 * l.byte-index;
}

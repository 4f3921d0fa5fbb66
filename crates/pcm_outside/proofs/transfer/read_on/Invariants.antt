use Rattle.std.proofs.Common.{◌≡◌, ◌≤◌, ◌-◌, ℕ, List, ◌++◌, length}
use Rattle.std.specs.Io.KnownBytes.{Consumes}
use Rattle.pcm_outside.proofs.transfer.read_on.Given as goal

-- the bytes so far grew by what was taken from the reader, in this order
abbrev pub invariant-loop-bytes : goal.invariant-loop-bytes
invariant-loop-bytes g l = record {
  within : length l.bytes.items ≤ l.most;
  room : length l.turn ≡ length l.fn.turn;
  taken : (more : List ℕ) × (l.bytes.items ≡ l.fn.first ++ more) × Consumes (g.R.Read.remaining l.fn.from) (g.R.Read.remaining l.from) more;
}

abbrev pub decreases-loop-bytes : goal.decreases-loop-bytes
decreases-loop-bytes g l = l.most - length l.bytes.items

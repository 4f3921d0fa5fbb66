use Rattle.std.proofs.Common.{◌≡◌, ℕ, ◌<◌, ◌≤◌, slice_index_or}
use Rattle.pcm_sequence.specs.Fixed.{fixed_items, fixed_len}
use Rattle.pcm_vchan.proofs.walk.walk.Given as goal

-- The channels below the index were visited, and the others are as they were.
abbrev pub invariant-loop-slot : goal.invariant-loop-slot
invariant-loop-slot g l = record {
  len : fixed_len l.channels ≡ fixed_len l.fn.channels;
  left : (at : ℕ) (other : _) → at < l.slot → g.V.Visit.leaves l.visit at (slice_index_or (fixed_items l.fn.channels) at other) (slice_index_or (fixed_items l.channels) at other);
  rest : (at : ℕ) (other : _) → l.slot ≤ at → slice_index_or (fixed_items l.channels) at other ≡ slice_index_or (fixed_items l.fn.channels) at other;
}

use Rattle.std.proofs.Common.{◌≡◌, ℕ, ◌<◌, ◌≤◌, slice_index_or}
use Rattle.pcm_sequence.specs.Fixed.{fixed_items, fixed_len}
use Rattle.pcm_path.specs.Paths.{HoldBlock}
use Rattle.pcm_bus.specs.Blocks.{map_gains, Added}
use Rattle.pcm_bus.proofs.mix.mix_each.Given as goal

-- The channels below the index gave their frames, and the others are as they were.
abbrev pub invariant-loop-slot : goal.invariant-loop-slot
invariant-loop-slot g l = record {
  len : fixed_len l.channels ≡ fixed_len l.fn.channels;
  left : (at : ℕ) (other : _) → at < l.slot
      → g.C.Mixed.leaves l.tables l.device l.here.mixed l.n (slice_index_or (fixed_items l.fn.channels) at other)
      (slice_index_or (fixed_items l.channels) at other);
  rest : (at : ℕ) (other : _) → l.slot ≤ at
      → slice_index_or (fixed_items l.channels) at other ≡ slice_index_or (fixed_items l.fn.channels) at other;
  sum : Added (g.C.Mixed.adds l.tables l.device l.n) (map_gains l.mixer l.first) (fixed_items l.fn.channels) l.slot l.fn.sum l.sum;
  block : HoldBlock l.device l.n l.frames l.sum;
}

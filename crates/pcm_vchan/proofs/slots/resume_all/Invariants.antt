use Rattle.std.proofs.Common.{◌≡◌, ℕ, ◌<◌, ◌≤◌, slice_index_or}
use Rattle.pcm_sequence.specs.Fixed.{fixed_items, fixed_len}
use Rattle.pcm_path.specs.Resumes.{ChannelResumes}
use Rattle.pcm_vchan.proofs.slots.resume_all.Given as goal

-- The channels below the index went on, and the others are as they were.
abbrev pub invariant-loop-slot : goal.invariant-loop-slot
invariant-loop-slot g l = record {
  len : fixed_len l.channels ≡ fixed_len l.fn.channels;
  left : (at : ℕ) (other : _) → at < l.slot
      → ChannelResumes g.C.Channel.path g.C.Channel.stands_as g.B.Feeder.kind g.B.Feeder.mark
      (slice_index_or (fixed_items l.others) at other) (slice_index_or (fixed_items l.fn.channels) at other) (slice_index_or (fixed_items l.channels) at other);
  rest : (at : ℕ) (other : _) → l.slot ≤ at → slice_index_or (fixed_items l.channels) at other ≡ slice_index_or (fixed_items l.fn.channels) at other;
}

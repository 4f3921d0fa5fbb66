-- The fragments of a ring, and the number that asks for them.
use Rattle.std.specs.Prelude.{ℕ, zero, suc, ◌+◌, ◌*◌, ◌/◌, ◌%◌, ◌^◌, ◌≤◌, min, max}
use Rattle.pcm_oss.specs.declared.fragments.Fragments.{Fragments}
use Rattle.pcm_oss.specs.declared.fragments.TheConstants.{RING_BYTES}

-- the bytes of a fragment
abbrev pub fragment_size : Fragments → ℕ
fragment_size fragments = 2 ^ fragments.log

-- the bytes of the ring
abbrev pub ring_size : Fragments → ℕ
ring_size fragments = fragments.count * fragment_size fragments

-- the logarithm that a number asks for, moved into its limits
abbrev pub log_asked : ℕ → ℕ
log_asked arg = max (min (arg % 65536) 16) 4

-- how many fragments are asked for where `most` fit: 0 asks for all, and every other number for at least two
abbrev pub count_asked : ℕ → ℕ → ℕ
count_asked most zero = most
count_asked most (suc asked) = min (max (suc asked) 2) most

-- the fragments that a number asks for; its highest bit says nothing
abbrev pub fragments_asked : ℕ → Fragments
fragments_asked arg = record {
  log = log_asked arg;
  count = count_asked (RING_BYTES / 2 ^ log_asked arg) (arg / 65536 % 32768);
}

-- the number that asks for just these
abbrev pub fragments_told : Fragments → ℕ
fragments_told fragments = fragments.count * 65536 + fragments.log

-- at least two fragments of 16 to 65536 bytes, which fit the greatest ring
pub record AreFragments (fragments : Fragments) : Type 0 where
  pub least_log : 4 ≤ fragments.log
  pub most_log : fragments.log ≤ 16
  pub least_count : 2 ≤ fragments.count
  pub fits : ring_size fragments ≤ RING_BYTES

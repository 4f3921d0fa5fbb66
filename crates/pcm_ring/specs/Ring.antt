-- A ring as its callers know it: bytes in a row, a size, and the room that was taken.
use Rattle.std.specs.Prelude.{ℕ, ◌-◌, List, [], length}

-- the bytes that wait, the oldest first, how many may wait, and for how many there is room
pub record Ring : Type 0 where
  pub bytes : List ℕ
  pub size : ℕ
  pub max : ℕ

-- an empty ring with room for n bytes, all of which may wait
abbrev pub empty_ring : ℕ → Ring
empty_ring n = record { bytes = []; size = n; max = n }

-- how many more bytes fit
abbrev pub free_bytes : Ring → ℕ
free_bytes r = r.size - length r.bytes

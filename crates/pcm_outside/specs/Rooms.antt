-- Bytes in a room of a fixed length.
use Rattle.std.specs.Prelude.{ℕ, List}

-- how many bytes have room, and those that are there
pub record Filled : Type 0 where
  pub room : ℕ
  pub bytes : List ℕ

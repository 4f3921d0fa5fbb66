-- Texts that are put into a slice one after another.
use Rattle.std.specs.Prelude.{◌≡◌, ◌+◌, ◌≤◌, ℕ, List, ◌++◌, take, drop, length}

-- a text stands in a slice from one place to another; what stands before and after it is as it was
pub record IsPut (text : List ℕ) (from to : ℕ) (old new : List ℕ) : Type 0 where
  pub onward : from ≤ to
  pub front : take to new ≡ take from old ++ text
  pub rest : drop to new ≡ drop to old

-- a slice has room for the text of a reply whose read got these bytes, from a place on
pub record HasTextRoom (text_bytes read_bytes from : ℕ) (read old : List ℕ) : Type 0 where
  pub room : from + text_bytes ≤ length old
  pub few : length read ≤ read_bytes

-- a text of so many bytes or fewer is put
pub record IsPutWithin (most : ℕ) (text : List ℕ) (from to : ℕ) (old new : List ℕ) : Type 0 where
  pub put : IsPut text from to old new
  pub within : to ≤ from + most

-- a line of so many bytes or fewer stands at the front of a slice; what comes after it is as it was
pub record IsLinePut (most : ℕ) (text : List ℕ) (to : ℕ) (old new : List ℕ) : Type 0 where
  pub line : take to new ≡ text
  pub rest : drop to new ≡ drop to old
  pub within : to ≤ most

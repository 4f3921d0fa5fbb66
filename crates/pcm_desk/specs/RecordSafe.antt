-- What holds of the counts of a record book at every moment.
use Rattle.std.specs.Prelude.{◌≡◌, ℕ, ◌+◌, ◌*◌, ◌^◌, ◌<◌, ◌≤◌}
use Rattle.pcm_format.specs.Frames.{frame_bytes}
use Rattle.pcm_oss.specs.Fragments.{AreFragments}
use Rattle.pcm_rate.specs.declared.rate.Rate.{Rate}
use Rattle.pcm_rate.specs.Rates.{IsRatio, can}
use Rattle.pcm_desk.specs.declared.record_book.RecordBook.{RecordBook}
use Rattle.pcm_desk.specs.declared.run_state.RunState.{RunState}
use Rattle.pcm_desk.specs.declared.run_state.RunState.TheVariants.{Running}
use Rattle.pcm_desk.specs.RecordBooks.{coming, keeping, record_fill_of}
use Rattle.pcm_desk.specs.Openings.{ring_bytes}

-- nothing was captured, kept or read
pub record IsRecordUnstarted (book : RecordBook) : Type 0 where
  pub captured_none : book.captured ≡ 0
  pub kept_none : book.kept ≡ 0
  pub read_none : book.read ≡ 0

-- a book that isn't running counts nothing
abbrev pub IsRecordInOrder : RunState → RecordBook → Type 0
IsRecordInOrder Running book = Unit {0}
IsRecordInOrder state book = IsRecordUnstarted book

-- all that came of the captured frames did, no more was read than was kept, no more waits than the ring holds, and what a
-- client may set is within its limits
pub record RecordIsSafe (rate : Rate) (book : RecordBook) : Type 0 where
  pub order : IsRecordInOrder book.state book
  pub given : book.given ≡ can rate book.captured
  pub read : book.read ≤ book.kept
  pub fill : record_fill_of book ≤ ring_bytes book.opening
  pub fragments : AreFragments book.opening.fragments
  -- each position answered was reached
  pub told : book.opening.told ≤ book.kept

-- what is needed to count what waits and what fits
pub record IsRecordCounted (book : RecordBook) : Type 0 where
  pub read : book.read ≤ book.kept
  pub fill : record_fill_of book ≤ ring_bytes book.opening
  pub fragments : AreFragments book.opening.fragments

-- what is needed so that of n more captured frames those can be kept that have room
pub record CanKeep (rate : Rate) (n : ℕ) (book : RecordBook) : Type 0 where
  pub ratio : IsRatio rate
  pub captured : book.captured + n < 2 ^ 64
  pub read : book.read ≤ book.kept
  pub fill : record_fill_of book ≤ ring_bytes book.opening
  pub fragments : AreFragments book.opening.fragments

-- and so that they can be counted
pub record CanCapture (rate : Rate) (n : ℕ) (book : RecordBook) : Type 0 where
  pub keeps : CanKeep rate n book
  pub given : book.given + coming rate n book < 2 ^ 64
  pub kept : book.kept + keeping rate n book * frame_bytes book.opening.settings < 2 ^ 64

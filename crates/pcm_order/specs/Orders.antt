-- What a book can be, by the rate between its client and the device or the mix: its counts are in order, and its client's rate is within
-- the limits.
use Rattle.std.specs.Prelude.{◌*◌, ◌≤◌}
use Rattle.pcm_format.specs.Frames.{frame_bytes}
use Rattle.pcm_feeder.specs.Limits.{IsRate}
use Rattle.pcm_rate.specs.declared.rate.Rate.{Rate}
use Rattle.pcm_rate.specs.Rates.{IsRatio}
use Rattle.pcm_desk.specs.declared.map_book.MapBook.{MapBook}
use Rattle.pcm_desk.specs.declared.play_book.PlayBook.{PlayBook}
use Rattle.pcm_desk.specs.declared.record_book.RecordBook.{RecordBook}
use Rattle.pcm_desk.specs.MapSafe.{MapIsSafe}
use Rattle.pcm_desk.specs.PlaySafe.{PlayIsSafe}
use Rattle.pcm_desk.specs.RecordSafe.{RecordIsSafe}

-- one that plays: no more was eaten than was written
pub record PlayCanBe (rate : Rate) (book : PlayBook) : Type 0 where
  pub ratio : IsRatio rate
  pub client : IsRate book.opening.settings.rate
  pub safe : PlayIsSafe rate book
  pub within : book.eaten * frame_bytes book.opening.settings ≤ book.written

-- one that records: no more was read than was kept
pub record RecordCanBe (rate : Rate) (book : RecordBook) : Type 0 where
  pub ratio : IsRatio rate
  pub client : IsRate book.opening.settings.rate
  pub safe : RecordIsSafe rate book
  pub within : book.read ≤ book.kept

-- a mapped one
pub record MapCanBe (rate : Rate) (book : MapBook) : Type 0 where
  pub ratio : IsRatio rate
  pub client : IsRate book.opening.settings.rate
  pub safe : MapIsSafe rate book

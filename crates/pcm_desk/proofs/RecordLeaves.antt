-- What a request leaves of a record book: its counts, or nothing of its recording.
use Rattle.std.proofs.Common.{◌≡◌, true, false, ◌⊎◌, arith}
use Rattle.pcm_desk.specs.Types.{Rate, RecordBook, Request}
use Rattle.pcm_desk.specs.RunStates.{is_unheld, is_running}
use Rattle.pcm_desk.specs.RecordRequests.{record_ask}
use Rattle.pcm_desk.specs.RecordSafe.{RecordIsSafe}
use Rattle.pcm_desk.proofs.RecordSafe.{can-none}

-- the counts stay, and what runs goes on so
pub record Stays (old new : RecordBook) : Type 0 where
  pub settings : new.opening.settings ≡ old.opening.settings
  pub fragments : new.opening.fragments ≡ old.opening.fragments
  pub captured : new.captured ≡ old.captured
  pub given : new.given ≡ old.given
  pub kept : new.kept ≡ old.kept
  pub read : new.read ≡ old.read
  pub runs : is_running old.state ≡ true → is_running new.state ≡ true
  pub held : is_unheld new.state ≡ false → is_unheld old.state ≡ false

-- nothing is left of a recording, which may have had other settings
pub record Ends (old new : RecordBook) : Type 0 where
  pub captured : new.captured ≡ 0
  pub given : new.given ≡ 0
  pub kept : new.kept ≡ 0
  pub read : new.read ≡ 0
  pub stopped : is_running new.state ≡ false

pub record Leaves (old new : RecordBook) : Type 0 where
  pub counts : Stays old new ⊎ Ends old new

-- A request leaves the counts of a book, or nothing of its recording. What it takes in Setup alone leaves nothing, since there is nothing.
pub record-ask-leaves : (rate : Rate) (request : Request) (book : RecordBook) → RecordIsSafe rate book → Leaves book (record_ask request book).book
record-ask-leaves rate request book s = grind (arith, can-none)

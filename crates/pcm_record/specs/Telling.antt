-- A channel that records, told as its book and what it kept: what it is then, and when two are alike.
use Rattle.std.specs.Prelude.{◌≡◌, ◌≤◌, ℕ, ℤ, false, List, length}
use Rattle.pcm_feeder.specs.declared.kind.Kind.{Kind}
use Rattle.pcm_feeder.specs.Filters.{Filters}
use Rattle.pcm_feeder.specs.Kept.{Kept}
use Rattle.pcm_feeder.specs.Limits.{IsRate}
use Rattle.pcm_chain.specs.Chains.{marks_in}
use Rattle.pcm_chain.specs.Pasts.{past_of, past_sizes}
use Rattle.pcm_desk.specs.declared.record_book.RecordBook.{RecordBook}
use Rattle.pcm_desk.specs.Channels.{record_rate_at}
use Rattle.pcm_desk.specs.Device.{seen}
use Rattle.pcm_desk.specs.RecordBooks.{record_fill_of}
use Rattle.pcm_desk.specs.RunStates.{is_unheld}
use Rattle.pcm_desk.specs.RecordSafe.{RecordIsSafe}
use Rattle.pcm_oss.specs.declared.event.Way.TheVariants.{Record}
use Rattle.pcm_path.specs.Paths.{HasBoxes}
use Rattle.pcm_path.specs.Telling.{plan_for}
use Rattle.pcm_record.specs.declared.channel.RecordChannelOf.{RecordChannelOf}
use Rattle.pcm_record.specs.Channels.{IsRecordReady}

-- A channel can be told this book: it has the boxes of a rack, the book's counts are in order, as many bytes wait as it counts and,
-- unless it is free, as many samples were kept as its plan's stages keep.
pub record CanTellRecord {B : Type 0} (kind : B → Kind) (filters : Filters) (book : RecordBook) (bytes : List ℕ) (samples : List ℤ)
    (channel : RecordChannelOf B) : Type 0 where
  pub kinds : HasBoxes kind channel.path
  pub rate : IsRate book.opening.settings.rate
  pub safe : RecordIsSafe (record_rate_at (seen filters channel.path.device) book) book
  pub within : book.read ≤ book.kept
  pub waiting : length bytes ≡ record_fill_of book
  pub past : is_unheld book.state ≡ false
      → length samples ≡ past_sizes (plan_for Record filters book.opening.settings channel.path).stages

-- It is of its device and has its boxes still. It has the book, these bytes wait in its ring, and it is ready; unless it is free, its
-- chain keeps these samples.
pub record HasToldRecord {B : Type 0} (kind : B → Kind) (kept : B → Kept) (mark : B → ℕ) (filters : Filters) (book : RecordBook)
    (bytes : List ℕ) (samples : List ℤ) (old new : RecordChannelOf B) : Type 0 where
  pub device_same : new.path.device ≡ old.path.device
  pub marks : marks_in mark new.path.chain ≡ marks_in mark old.path.chain
  pub book_is : new.book ≡ book
  pub ring_is : new.path.ring.bytes ≡ bytes
  pub ready : IsRecordReady kind kept filters new
  pub keeps : is_unheld book.state ≡ false → past_of kept new.path.chain ≡ samples

-- two channels of one device are by one book, the same bytes wait in their rings and, unless they are free, their chains keep the same
pub record RecordAreAlike {B : Type 0} (kept : B → Kept) (one other : RecordChannelOf B) : Type 0 where
  pub device_same : other.path.device ≡ one.path.device
  pub book_same : other.book ≡ one.book
  pub ring_same : other.path.ring.bytes ≡ one.path.ring.bytes
  pub keeps : is_unheld one.book.state ≡ false → past_of kept other.path.chain ≡ past_of kept one.path.chain

-- The channels of a device, by slot.
use Rattle.std.specs.Prelude.{◌≡◌, ℕ, ◌+◌, ◌-◌, ◌^◌, ◌<◌, List, length, map, slice_index_or, All}
use Rattle.pcm_feeder.specs.declared.kind.Kind.{Kind}
use Rattle.pcm_oss.specs.declared.event.Way.{Way}
use Rattle.pcm_desk.specs.declared.device.Device.{Device}
use Rattle.pcm_desk.specs.declared.record_book.RecordBook.{RecordBook}
use Rattle.pcm_feeder.specs.Filters.{Filters}
use Rattle.pcm_feeder.specs.Kept.{Kept}
use Rattle.pcm_desk.specs.Channels.{by_way, play_passing}
use Rattle.pcm_desk.specs.Device.{DeviceSeen}
use Rattle.pcm_play.specs.declared.channel.PlayChannelOf.{PlayChannelOf}
use Rattle.pcm_oss.specs.declared.fragments.TheConstants.{RING_BYTES}
use Rattle.pcm_record.specs.declared.channel.RecordChannelOf.{RecordChannelOf}
use Rattle.pcm_record.specs.Channels.{CaptureFits, HoldsUnread, IsRecordReady}
pub use Rattle.pcm_path.specs.Paths.{ChannelMoves}
pub use Rattle.pcm_map.specs.Channels.{MapKeeps}

-- the place of a slot among those of its way, by its number, beside `slots` that play: `slot_number` backwards
abbrev pub slot_place : ℕ → Way → ℕ → ℕ
slot_place slots way number = by_way way number number (number - slots)

-- the book of a channel after an interrupt of n frames, where the device had been given `handed` before
abbrev pub Passes : {B : Type 0} → DeviceSeen → ℕ → ℕ → PlayChannelOf B → PlayChannelOf B → Type 0
Passes device handed n old new = new.book ≡ play_passing device handed n old.book

-- ---- channels that record

-- their books, by slot
abbrev pub record_books_of : {B : Type 0} → List (RecordChannelOf B) → List RecordBook
record_books_of channels = map (λ channel. channel.book) channels

-- each is of one device
abbrev pub RecordAreOf : {B : Type 0} → Device → List (RecordChannelOf B) → Type 0
RecordAreOf device channels = All (λ channel. channel.path.device ≡ device) channels

-- as many bytes were kept in the slot of each as its book counts, and those that were not read wait in its ring
abbrev pub AllHoldUnread : {B : Type 0} → List (RecordChannelOf B) → (ℕ → List ℕ) → Type 0
AllHoldUnread channels bytes = (slot : ℕ) (other : RecordChannelOf _) → slot < length channels
    → HoldsUnread (slice_index_or channels slot other) (bytes slot)

-- a channel of this device is ready for an interrupt that captures `frames` frames, and its counts have room for them
pub record IsRecordDue {B : Type 0} (kind : B → Kind) (keeps : B → Kept) (filters : Filters) (device : Device) (frames : ℕ) (channel : RecordChannelOf B) : Type 0 where
  pub own : channel.path.device ≡ device
  pub ready : IsRecordReady kind keeps filters channel
  pub captured : CaptureFits filters frames channel
  pub kept : channel.book.kept + RING_BYTES < 2 ^ 64

-- A channel that records: what it stands for, and what an event changes of it.
use Rattle.std.specs.Prelude.{◌≡◌, ℕ, ◌+◌, ◌^◌, ◌<◌, ◌≤◌, false, List, [], ◌++◌, length, take, drop, ℤ, OnErr, Result}
use Rattle.pcm_format.specs.Frames.{Frame}
use Rattle.pcm_format.specs.Layouts.{channels_of}
use Rattle.pcm_rate.specs.Rates.{can}
use Rattle.pcm_feeder.specs.declared.kind.Kind.{Kind}
use Rattle.pcm_feeder.specs.Filters.{Filters}
use Rattle.pcm_feeder.specs.Kept.{Kept}
use Rattle.pcm_feeder.specs.Streams.{frames_of}
use Rattle.pcm_oss.specs.declared.reply.Answer.{Answer}
use Rattle.pcm_oss.specs.declared.reply.Errno.{Errno}
use Rattle.pcm_oss.specs.Replies.{bytes_due}
use Rattle.pcm_oss.specs.declared.fragments.TheConstants.{RING_BYTES}
use Rattle.pcm_plan.specs.Fits.{HaveBits}
use Rattle.pcm_chain.specs.Pushes.{HasRecorded, HasRecordedFar}
use Rattle.pcm_desk.specs.declared.record_book.RecordBook.{RecordBook}
use Rattle.pcm_desk.specs.declared.device.Device.{Device}
use Rattle.pcm_desk.specs.Device.{seen}
use Rattle.pcm_desk.specs.Channels.{record_rate_at}
use Rattle.pcm_desk.specs.Desk.{record_unopened}
use Rattle.pcm_desk.specs.RunStates.{is_unheld}
use Rattle.pcm_desk.specs.RecordBooks.{keeping, read_turn}
use Rattle.pcm_sound.specs.Given.{recorded_bytes}
use Rattle.pcm_oss.specs.declared.event.Way.TheVariants.{Record}
use Rattle.pcm_desk.specs.declared.turn.Turn.{Turn}
use Rattle.pcm_path.specs.Paths.{HasBoxes, IsPlanned, LeavesOf, TurnsOf}
use Rattle.pcm_record.specs.declared.channel.RecordChannelOf.{RecordChannelOf}

-- the bytes that were kept and not yet read
abbrev pub unread_of : RecordBook → List ℕ → List ℕ
unread_of book bytes = drop book.read bytes

-- a channel's chain goes by the plan that these filters give for its book's settings
abbrev pub IsRecordPlanned : {B : Type 0} → Filters → RecordChannelOf B → Type 0
IsRecordPlanned filters channel = IsPlanned Record filters channel.book.opening.settings channel.path

-- the same of a channel that isn't free; of a free one nothing is said
abbrev pub IsRecordServed : {B : Type 0} → Filters → RecordChannelOf B → Type 0
IsRecordServed filters channel = is_unheld channel.book.state ≡ false → IsRecordPlanned filters channel

-- A channel stands for a book, all bytes that were kept since the start, and all frames of the device that were captured since:
-- the bytes that were not read wait in the ring, and the chain has eaten the frames and given all that they allow. Of a free one's
-- chain nothing is said.
pub record RecordStands {B : Type 0} (kept : B → Kept) (filters : Filters) (channel : RecordChannelOf B) (book : RecordBook) (bytes : List ℕ) (frames : List Frame) : Type 0 where
  pub book_is : channel.book ≡ book
  pub count : length bytes ≡ book.kept
  pub ring_is : channel.path.ring.bytes ≡ unread_of book bytes
  pub captured : length frames ≡ book.captured
  pub bits : HaveBits 32 frames
  pub records : is_unheld book.state ≡ false → HasRecorded kept filters channel.path.chain frames

-- How far a channel is, by its book's counts, whatever was captured: its chain has eaten as many frames as the book counts, and
-- given all that they allow. Of a free one's chain nothing is said.
abbrev pub RecordIsSoFar : {B : Type 0} → (B → Kept) → Filters → RecordChannelOf B → Type 0
RecordIsSoFar kept filters channel =
    is_unheld channel.book.state ≡ false → HasRecordedFar kept filters channel.path.chain channel.book.captured

-- each box of a channel is of its place's kind, and unless it is free its chain goes by its plan and is as far as its book counts
pub record IsRecordReady {B : Type 0} (kind : B → Kind) (kept : B → Kept) (filters : Filters) (channel : RecordChannelOf B) : Type 0 where
  pub kinds : HasBoxes kind channel.path
  pub planned : IsRecordServed filters channel
  pub far : RecordIsSoFar kept filters channel

-- a channel that captures `frames` frames more has room for them in its counts, and for those that come of them
pub record CaptureFits {B : Type 0} (filters : Filters) (frames : ℕ) (channel : RecordChannelOf B) : Type 0 where
  pub captured : channel.book.captured + frames < 2 ^ 64
  pub given : can (record_rate_at (seen filters channel.path.device) channel.book) (channel.book.captured + frames) < 2 ^ 64

-- as many bytes were kept as the book counts, and those that were not read wait in the ring
pub record HoldsUnread {B : Type 0} (channel : RecordChannelOf B) (bytes : List ℕ) : Type 0 where
  pub count : length bytes ≡ channel.book.kept
  pub ring_is : channel.path.ring.bytes ≡ unread_of channel.book bytes

-- whatever bytes were kept, a read gives those that were kept first and not yet read, as many as its answer says
abbrev pub GivesUnread : {B : Type 0} → RecordChannelOf B → Result Answer Errno → List ℕ → Type 0
GivesUnread channel result out = (bytes : List ℕ) → HoldsUnread channel bytes
    → take (bytes_due result) out ≡ take (bytes_due result) (unread_of channel.book bytes)

-- nobody has opened the channel yet: it stands for no bytes and no frames, its boxes are of the right kinds, and its chain goes
-- by its plan
pub record IsRecordUnopened {B : Type 0} (kind : B → Kind) (kept : B → Kept) (filters : Filters) (device : Device) (channel : RecordChannelOf B) : Type 0 where
  pub device_is : channel.path.device ≡ device
  pub book : channel.book ≡ record_unopened (seen filters device)
  pub kinds : HasBoxes kind channel.path
  pub planned : IsRecordPlanned filters channel
  pub stands : RecordStands kept filters channel channel.book [] []

-- What an event leaves of a channel that may capture `input`, of which `count` frames of the client are kept: whatever bytes and
-- frames it stood for, it stands for these with what was kept and captured, or for none where its recording is over.
pub record RecordMoves {B : Type 0} (kind : B → Kind) (keeps : B → Kept) (filters : Filters) (input : List Frame) (count : ℕ) (old new : RecordChannelOf B) : Type 0 where
  pub kinds : HasBoxes kind old.path → HasBoxes kind new.path
  pub planned : IsRecordServed filters old → IsRecordServed filters new
  pub far : RecordIsSoFar keeps filters old → RecordIsSoFar keeps filters new
  pub stands : (bytes : List ℕ) (frames : List Frame) → RecordStands keeps filters old old.book bytes frames
      → RecordStands keeps filters new new.book
      (take new.book.kept (bytes ++ recorded_bytes (seen filters old.path.device) old.book.opening.settings (frames ++ input) old.book.given count))
      (take new.book.captured (frames ++ input))
  pub captured : new.book.captured ≤ old.book.captured + length input
  pub kept : new.book.kept ≤ old.book.kept + RING_BYTES

-- a channel stands for whatever another one stands for, by the same book, and its chain goes by the plan that the other's goes by
pub record RecordStandsAs {B : Type 0} (kept : B → Kept) (other channel : RecordChannelOf B) : Type 0 where
  pub book : channel.book ≡ other.book
  pub planned : (filters : Filters) → IsRecordServed filters other → IsRecordServed filters channel
  pub far : (filters : Filters) → RecordIsSoFar kept filters other → RecordIsSoFar kept filters channel
  pub stands : (filters : Filters) (bytes : List ℕ) (frames : List Frame) → RecordStands kept filters other other.book bytes frames
      → RecordStands kept filters channel channel.book bytes frames

-- what a read leaves of a channel, and of the bytes that it may fill
pub record RecordReads {B : Type 0} (kind : B → Kind) (keeps : B → Kept) (result : Result Answer Errno) (old new : RecordChannelOf B)
    (before after : List ℕ) : Type 0 where
  pub book : new.book ≡ (read_turn (length before) old.book).book
  pub reply : result ≡ (read_turn (length before) old.book).reply
  pub within : bytes_due result ≤ length before
  pub bytes : GivesUnread old result after
  pub rest : drop (bytes_due result) after ≡ drop (bytes_due result) before
  pub refused : OnErr result (new ≡ old)
  pub kept : OnErr result (after ≡ before)
  pub device : new.path.device ≡ old.path.device
  pub moves : (filters : Filters) → RecordMoves kind keeps filters [] 0 old new

-- what a capture of n frames leaves of a channel, which are these samples
abbrev pub CaptureMoves : {B : Type 0} → (B → Kind) → (B → Kept) → Filters → ℕ → List ℤ → RecordChannelOf B → RecordChannelOf B → Type 0
CaptureMoves kind keeps filters n samples old new =
    RecordMoves kind keeps filters (frames_of (channels_of old.path.device.settings.layout) samples)
    (keeping (record_rate_at (seen filters old.path.device) old.book) n old.book) old new

-- what a channel needs so that it can be asked something
pub record MayAskRecord {B : Type 0} (kind : B → Kind) (filters : Filters) (channel : RecordChannelOf B) : Type 0 where
  pub kinds : HasBoxes kind channel.path
  pub planned : IsRecordServed filters channel

-- what a call leaves of a channel by the turn of its book, and what one by which it has this book
abbrev pub RecordTurns : {B : Type 0} → Turn RecordBook → (RecordChannelOf B → RecordChannelOf B → Type 0) → Result Answer Errno
    → RecordChannelOf B → RecordChannelOf B → Type 0
RecordTurns turn = TurnsOf (λ channel. channel.path) (λ channel. channel.book) turn.book turn.reply

abbrev pub RecordLeaves : {B : Type 0} → RecordBook → (RecordChannelOf B → RecordChannelOf B → Type 0) → RecordChannelOf B
    → RecordChannelOf B → Type 0
RecordLeaves book = LeavesOf (λ channel. channel.path) (λ old new. new.book ≡ book)

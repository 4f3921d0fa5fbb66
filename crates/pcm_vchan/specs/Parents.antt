-- What a parent is to the rules.
use Rattle.std.specs.Prelude.{◌≡◌, ◌⊎◌, ℕ, ◌+◌, ◌^◌, ◌<◌, ◌≤◌, All, ℤ, List, [], ◌∷◌, length, take, drop, Result}
use Rattle.pcm_sequence.specs.Fixed.{fixed_items}
use Rattle.pcm_format.specs.declared.settings.Settings.{Settings}
use Rattle.pcm_feeder.specs.declared.kind.Kind.{Kind}
use Rattle.pcm_oss.specs.declared.reply.Errno.{Errno}
use Rattle.pcm_desk.specs.declared.device.Device.{Device}
use Rattle.pcm_desk.specs.declared.here.Here.{Here}
use Rattle.pcm_desk.specs.declared.map_book.MapBook.{MapBook}
use Rattle.pcm_desk.specs.declared.play_book.PlayBook.{PlayBook}
use Rattle.pcm_desk.specs.declared.record_book.RecordBook.{RecordBook}
use Rattle.pcm_feeder.specs.Filters.{Filters}
use Rattle.pcm_feeder.specs.Kept.{Kept}
use Rattle.pcm_format.specs.Frames.{Frame}
use Rattle.pcm_feeder.specs.declared.rack.RackOf.{RackOf}
use Rattle.pcm_feeder.specs.Racks.{HaveKinds, rack_marks}
use Rattle.pcm_chain.specs.Chains.{boxes_in, marks_in}
use Rattle.pcm_desk.specs.declared.limits.TheConstants.{MIX_FRAMES, RING_FRAMES}
use Rattle.pcm_oss.specs.declared.event.TheConstants.{SLOTS}
use Rattle.pcm_oss.specs.declared.event.Way.TheVariants.{Play, Record, Map}
use Rattle.pcm_desk.specs.Device.{DeviceSeen, HasRates, mix_frames, mixed_for, mixed_slots, passed_for, seen, unfiltered}
use Rattle.pcm_desk.specs.PlayBooks.{play_begun}
use Rattle.pcm_desk.specs.RecordBooks.{record_begun}
use Rattle.pcm_desk.specs.MapBooks.{map_begun, taken_of}
use Rattle.pcm_desk.specs.Channels.{mixed_by}
use Rattle.pcm_desk.specs.Desk.{least_free_map, least_free_play, least_free_record, slot_number}
use Rattle.pcm_play.specs.declared.channel.PlayChannelOf.{PlayChannelOf}
use Rattle.pcm_play.specs.Channels.{IsPlayReady, IsPlayUnopened, PlayMoves}
use Rattle.pcm_record.specs.declared.channel.RecordChannelOf.{RecordChannelOf}
use Rattle.pcm_record.specs.Channels.{IsRecordReady, IsRecordUnopened, RecordMoves}
use Rattle.pcm_map.specs.declared.channel.MapChannelOf.{MapChannelOf}
use Rattle.pcm_map.specs.Channels.{IsMapReady, IsMapUnopened}
use Rattle.pcm_vchan.specs.declared.parent.ParentOf.{ParentOf}
use Rattle.pcm_bus.specs.Buses.{TurnsBus}
use Rattle.pcm_bus.specs.Handovers.{HasMadeFar, IsPlannedBy}
use Rattle.pcm_vchan.specs.Captures.{Captures}
use Rattle.pcm_bus.specs.Slots.{Each, IsMapDue, IsPlayDue, MapAreOf, MapPlays, PlayAreOf, map_books_of, play_books_of}
use Rattle.pcm_vchan.specs.Slots.{IsRecordDue, MapKeeps, Passes, RecordAreOf, record_books_of}
use Rattle.pcm_vchan.specs.Racks.{channel_marks}
pub use Rattle.pcm_vchan.specs.Openings.{books_begun, slot_or_busy, Begins}
use Rattle.pcm_vchan.specs.Starts.{EachAt}

-- the channels of a parent, by slot: those that play
abbrev pub play_channels : {B : Type 0} → ParentOf B → List (PlayChannelOf B)
play_channels parent = fixed_items parent.channels

-- and those that record
abbrev pub record_channels : {B : Type 0} → ParentOf B → List (RecordChannelOf B)
record_channels parent = fixed_items parent.recorders

-- and the mapped ones
abbrev pub map_channels : {B : Type 0} → ParentOf B → List (MapChannelOf B)
map_channels parent = fixed_items parent.maps

-- the books of a parent, by slot
abbrev pub play_books : {B : Type 0} → ParentOf B → List PlayBook
play_books parent = play_books_of (play_channels parent)

abbrev pub record_books : {B : Type 0} → ParentOf B → List RecordBook
record_books parent = record_books_of (record_channels parent)

abbrev pub map_books : {B : Type 0} → ParentOf B → List MapBook
map_books parent = map_books_of (map_channels parent)

-- Each slot has the boxes of its own rack: those that play have the first ones, mapped ones those after them, those that record the ones
-- from the seventeenth on, and the bus has the one after all of these.
pub record HasRacks {B : Type 0} (mark : B → ℕ) (racks : List (RackOf B)) (parent : ParentOf B) : Type 0 where
  pub playing : channel_marks (λ channel. channel.path) mark (play_channels parent) ≡ rack_marks mark (take parent.device.play_slots racks)
  pub mapped : channel_marks (λ channel. channel.path) mark (map_channels parent) ≡ rack_marks mark (take parent.device.map_slots (drop parent.device.play_slots racks))
  pub recording : channel_marks (λ channel. channel.path) mark (record_channels parent) ≡ rack_marks mark (take parent.device.record_slots (drop SLOTS racks))
  pub bus : marks_in mark parent.bus.chain ∷ [] ≡ rack_marks mark (drop (SLOTS + SLOTS) racks)

-- a device that a parent can be made for
pub record HasLimits (device : Device) : Type 0 where
  pub rates : HasRates device
  pub ring : device.ring_frames ≤ RING_FRAMES
  pub mix : mix_frames (unfiltered device) ≤ MIX_FRAMES
  pub slots : mixed_slots (unfiltered device) ≤ SLOTS
  pub recorders : device.record_slots ≤ SLOTS

-- ---- what is repeated of all channels of a parent

-- all are of its device, and ready for a call
pub record AreServed {B : Type 0} (kind : B → Kind) (kept : B → Kept) (filters : Filters) (parent : ParentOf B) : Type 0 where
  pub own : PlayAreOf parent.device (play_channels parent)
  pub recorders_own : RecordAreOf parent.device (record_channels parent)
  pub maps_own : MapAreOf parent.device (map_channels parent)
  pub ready : All (IsPlayReady kind kept filters) (play_channels parent)
  pub recorders_ready : All (IsRecordReady kind kept filters) (record_channels parent)
  pub maps_ready : All (IsMapReady kind kept filters) (map_channels parent)

-- all are of its device, and have the boxes of a rack: they may be closed
pub record AreClosable {B : Type 0} (kind : B → Kind) (parent : ParentOf B) : Type 0 where
  pub own : PlayAreOf parent.device (play_channels parent)
  pub recorders_own : RecordAreOf parent.device (record_channels parent)
  pub maps_own : MapAreOf parent.device (map_channels parent)
  pub kinds : All (λ channel. HaveKinds kind (boxes_in channel.path.chain)) (play_channels parent)
  pub recorders_kinds : All (λ channel. HaveKinds kind (boxes_in channel.path.chain)) (record_channels parent)
  pub maps_kinds : All (λ channel. HaveKinds kind (boxes_in channel.path.chain)) (map_channels parent)

-- the bytes that were accepted since the opening of each fit a count
abbrev pub TotalsFit : {B : Type 0} → ParentOf B → Type 0
TotalsFit parent = All (λ channel. channel.book.done + channel.book.written < 2 ^ 64) (play_channels parent)

-- and so do those that each mapped one has taken
abbrev pub TakenFit : {B : Type 0} → ParentOf B → Type 0
TakenFit parent = All (λ channel. taken_of channel.book < 2 ^ 64) (map_channels parent)

-- few enough frames were mixed so far, or are given to the device by the end of an interrupt of n, that the counts of both have room
abbrev pub HasRoomFor : {B : Type 0} → ℕ → ParentOf B → Type 0
HasRoomFor n parent = (parent.mixed < 2 ^ 56) ⊎ (parent.handed + n < 2 ^ 56)

-- how many frames an interrupt of n mixes
abbrev pub mixed_in : {B : Type 0} → Filters → ℕ → ParentOf B → ℕ
mixed_in filters n parent = mixed_by (seen filters parent.device) parent.handed n

-- its bus goes by its plan, and has made as many frames as the device has been given; just what these need was mixed
pub record HasBus {B : Type 0} (kept : B → Kept) (device : DeviceSeen) (parent : ParentOf B) : Type 0 where
  pub planned : IsPlannedBy device parent.bus.chain
  pub made : HasMadeFar kept device parent.bus.chain parent.handed
  pub level : parent.mixed ≡ mixed_for device parent.handed

-- where its mix and its device are
abbrev pub here_of : {B : Type 0} → ParentOf B → Here
here_of parent = record { mixed = parent.mixed; passed = passed_for (unfiltered parent.device) parent.handed }

-- all are ready for an interrupt of `frames` frames, and so is its bus
pub record AreDue {B : Type 0} (kind : B → Kind) (kept : B → Kept) (filters : Filters) (frames : ℕ) (parent : ParentOf B) : Type 0 where
  pub playing : All (IsPlayDue kind kept filters parent.device (mixed_in filters frames parent)) (play_channels parent)
  pub recording : All (IsRecordDue kind kept filters parent.device frames) (record_channels parent)
  pub mapped : All (IsMapDue kind kept filters parent.device (mixed_in filters frames parent)) (map_channels parent)
  pub bus : HasBus kept (seen filters parent.device) parent

-- nobody has opened one that plays
abbrev pub ArePlayUnopened : {B : Type 0} → (B → Kind) → (B → Kept) → Filters → Device → ParentOf B → Type 0
ArePlayUnopened kind kept filters device parent = All (IsPlayUnopened kind kept filters device) (play_channels parent)

-- nor one that records
abbrev pub AreRecordUnopened : {B : Type 0} → (B → Kind) → (B → Kept) → Filters → Device → ParentOf B → Type 0
AreRecordUnopened kind kept filters device parent = All (IsRecordUnopened kind kept filters device) (record_channels parent)

-- nor a mapped one
abbrev pub AreMapUnopened : {B : Type 0} → (B → Kind) → (B → Kept) → Filters → Device → ParentOf B → Type 0
AreMapUnopened kind kept filters device parent = All (IsMapUnopened kind kept filters device) (map_channels parent)

-- what a call moves of each that plays
abbrev pub EachPlayMoves : {B : Type 0} → (B → Kind) → (B → Kept) → Filters → List ℕ → ℕ → ParentOf B → ParentOf B → Type 0
EachPlayMoves kind kept filters more frames old new = Each (PlayMoves kind kept filters more frames) (play_channels old) (play_channels new)

-- and of each that records
abbrev pub EachRecordMoves : {B : Type 0} → (B → Kind) → (B → Kept) → Filters → List Frame → ℕ → ParentOf B → ParentOf B → Type 0
EachRecordMoves kind kept filters input count old new = Each (RecordMoves kind kept filters input count) (record_channels old) (record_channels new)

-- and leaves of each mapped one, into whose area it may write
abbrev pub EachMapKeeps : {B : Type 0} → (B → Kind) → (B → Kept) → Filters → (ℕ → List ℕ → List ℕ) → ParentOf B → ParentOf B → Type 0
EachMapKeeps kind kept filters writes old new = EachAt (λ slot. MapKeeps kind kept filters (writes slot)) (map_channels old) (map_channels new)

-- a call that writes into none
abbrev pub untouched : ℕ → List ℕ → List ℕ
untouched slot area = area

-- the book of each that plays after an interrupt of n frames
abbrev pub EachPasses : {B : Type 0} → Filters → ℕ → ParentOf B → ParentOf B → Type 0
EachPasses filters n old new = Each (Passes (seen filters old.device) old.handed n) (play_channels old) (play_channels new)

-- what it leaves of each that records, where it brings these samples
abbrev pub EachCaptures : {B : Type 0} → (B → Kind) → (B → Kept) → Filters → ℕ → List ℤ → ParentOf B → ParentOf B → Type 0
EachCaptures kind kept filters n samples old new = Each (Captures kind kept (seen filters old.device) n samples) (record_channels old) (record_channels new)

-- and of each mapped one
abbrev pub EachMapPlays : {B : Type 0} → (B → Kind) → (B → Kept) → Filters → ℕ → ParentOf B → ParentOf B → Type 0
EachMapPlays kind kept filters n old new = Each (MapPlays kind kept filters old.device (mixed_in filters n old)) (map_channels old) (map_channels new)

-- and of the parent's bus and ring
abbrev pub BusTurns : {B : Type 0} → (B → Kept) → Filters → ℕ → ParentOf B → ParentOf B → Type 0
BusTurns kept filters n old new = TurnsBus kept (seen filters old.device) old.handed n old.mixer (play_channels old) (map_channels old) old.bus.chain new.bus.chain old.ring.bytes new.ring.bytes

-- a hand-over to the device changes channels that play and counts, and nothing else
pub record KeepsRest {B : Type 0} (old new : ParentOf B) : Type 0 where
  pub device : new.device ≡ old.device
  pub recorders : new.recorders ≡ old.recorders
  pub maps : new.maps ≡ old.maps
  pub mixer : new.mixer ≡ old.mixer
  pub bus : new.bus ≡ old.bus
  pub ring : new.ring ≡ old.ring

-- ---- opening a slot

-- all but the channels is as before: the device, its mixer device, its bus, its ring and its counts, and how many channels there are of each way
pub record KeepsOutput {B : Type 0} (old new : ParentOf B) : Type 0 where
  pub device_same : new.device ≡ old.device
  pub mixer_same : new.mixer ≡ old.mixer
  pub bus_same : new.bus ≡ old.bus
  pub ring_same : new.ring.bytes ≡ old.ring.bytes
  pub handed_same : new.handed ≡ old.handed
  pub mixed_same : new.mixed ≡ old.mixed
  pub slots_same : length (play_channels new) ≡ length (play_channels old)
  pub recorders_same : length (record_channels new) ≡ length (record_channels old)
  pub maps_same : length (map_channels new) ≡ length (map_channels old)

-- an open of a channel that plays
pub record OpensPlay {B : Type 0} (kind : B → Kind) (kept : B → Kept) (filters : Filters) (settings : Settings) (old new : ParentOf B) (result : Result ℕ Errno) : Type 0 where
  pub begins : Begins (slot_number old.device.play_slots Play) (length (play_channels old)) (least_free_play (play_books old)) (play_begun settings) (play_books old) (play_books new) result
  pub own : PlayAreOf new.device (play_channels new)
  pub moves : EachPlayMoves kind kept filters [] 0 old new
  pub others : new.recorders ≡ old.recorders
  pub mapped : new.maps ≡ old.maps

-- an open of a channel that records
pub record OpensRecord {B : Type 0} (kind : B → Kind) (kept : B → Kept) (filters : Filters) (settings : Settings) (old new : ParentOf B) (result : Result ℕ Errno) : Type 0 where
  pub begins : Begins (slot_number old.device.play_slots Record) (length (record_channels old)) (least_free_record (record_books old)) (record_begun settings) (record_books old) (record_books new) result
  pub own : RecordAreOf new.device (record_channels new)
  pub moves : EachRecordMoves kind kept filters [] 0 old new
  pub others : new.channels ≡ old.channels
  pub mapped : new.maps ≡ old.maps

-- an open of a mapped channel
pub record OpensMap {B : Type 0} (kind : B → Kind) (kept : B → Kept) (filters : Filters) (settings : Settings) (old new : ParentOf B) (result : Result ℕ Errno) : Type 0 where
  pub begins : Begins (slot_number old.device.play_slots Map) (length (map_channels old)) (least_free_map (map_books old)) (map_begun settings) (map_books old) (map_books new) result
  pub own : MapAreOf new.device (map_channels new)
  pub keeps : EachMapKeeps kind kept filters untouched old new
  pub others : new.channels ≡ old.channels
  pub recording : new.recorders ≡ old.recorders

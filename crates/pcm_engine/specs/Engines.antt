-- What an engine stands for, and what holds of every one.
use Rattle.std.specs.Prelude.{◌≡◌, ◌≤◌, ◌+◌, ◌*◌, ℕ, ℤ, List, [], ◌∷◌, ◌++◌, All, IsErr, IsOk, Result, drop, length, map, take}
use Rattle.pcm_engine.specs.Types.{Answer, Device, Errno, Event, Filters, Kept, Kind, Pool}
use Rattle.pcm_oss.specs.declared.event.Event.TheVariants.{Read, StartGroup}
use Rattle.pcm_oss.specs.Replies.{Reply}
use Rattle.pcm_sequence.specs.Fixed.{fixed_items}
use Rattle.pcm_feeder.specs.declared.rack.RacksOf.{RacksOf}
use Rattle.pcm_feeder.specs.Racks.{AreRacks, list_of}
use Rattle.pcm_desk.specs.Device.{DeviceSeen, IsInLimits, device_frame_bytes, ring_frames, seen}
use Rattle.pcm_desk.specs.Openings.{ring_bytes}
use Rattle.pcm_desk.specs.PlaySafe.{PlayIsHere, PlayIsSafe}
use Rattle.pcm_desk.specs.RecordSafe.{RecordIsSafe}
use Rattle.pcm_desk.specs.MapSafe.{MapIsSafe}
use Rattle.pcm_desk.specs.Channels.{map_rate_at, play_rate_at, record_rate_at}
use Rattle.pcm_desk.specs.Desk.{Desk, after, desk_here, held_by, map_at, play_at, record_at}
use Rattle.pcm_desk.specs.Own.{HoldApart, IsIsolated, MembersWait}
use Rattle.pcm_desk.specs.Events.{Fits, bytes_handed, frames_taken}
use Rattle.pcm_sound.specs.DeviceList.{device_text}
use Rattle.pcm_sound.specs.OwnAreas.{ChangesOneArea}
use Rattle.pcm_sound.specs.Plain.{HasNoShortage, IsInPlace, IsUnbroken, plain_text}
use Rattle.pcm_sound.specs.Pools.{AreAlike, IsLonger}
use Rattle.pcm_sound.specs.Story.{story_of}
use Rattle.pcm_sound.specs.StoryReplies.{reply_to}
use Rattle.pcm_sound.specs.Together.{StartAsOne}
use Rattle.pcm_engine.specs.declared.engine.EngineOf.{EngineOf}
use Rattle.pcm_engine.specs.declared.limits.TheConstants.{LIFE}
use Rattle.pcm_play.specs.Channels.{IsPlayReady}
use Rattle.pcm_engine.specs.Brought.{IsAllowed, IsCalled, bytes_asked, samples_asked}
use Rattle.pcm_engine.specs.Desks.{desk_with}
use Rattle.pcm_record.specs.Channels.{IsRecordReady}
use Rattle.pcm_map.specs.Channels.{IsMapReady}
use Rattle.pcm_engine.specs.Stands.{PartsStand, RecordersStand}
use Rattle.pcm_engine.specs.Steps.{bytes_answered, front_taken}
use Rattle.pcm_vchan.specs.Parents.{HasBus, map_channels, play_channels, record_channels}
use Rattle.pcm_vchan.specs.Slots.{AllHoldUnread}

-- the engine's device, beside the filters of its run
abbrev pub device_of : {B : Type 0} → EngineOf B → DeviceSeen
device_of engine = seen engine.tables engine.parent.device

-- the engine's books, descriptors and counts
abbrev pub desk_of : {B : Type 0} → EngineOf B → Desk
desk_of engine = desk_with engine.parent engine.descriptors

-- the bytes that wait in each ring of a channel that records, by slot
abbrev pub waiting_in : {B : Type 0} → EngineOf B → List (List ℕ)
waiting_in engine = map (λ channel. channel.path.ring.bytes) (record_channels engine.parent)

-- the engine stands for a list of events, whose bytes are found in a pool
pub record Stands {B : Type 0} (kept : B → Kept) (engine : EngineOf B) (pool : Pool) (events : List Event) : Type 0 where
  pub playing : PartsStand kept (device_of engine) (desk_of engine) (play_channels engine.parent) (map_channels engine.parent) engine.parent.bus.chain engine.parent.ring.bytes (story_of (device_of engine) pool events)
  pub recording : RecordersStand kept (device_of engine) pool (record_channels engine.parent) (story_of (device_of engine) pool events)

-- what it stands for with one pool, it stands for with every pool that is the same to those events
abbrev pub StandsWithAlike : {B : Type 0} → (B → Kept) → EngineOf B → Type 0
StandsWithAlike kept engine = (one other : Pool) (events : List Event) → AreAlike one other events
    → Stands kept engine one events → Stands kept engine other events

-- and with every pool that has more bytes after those that the events name
abbrev pub StandsWithLonger : {B : Type 0} → (B → Kept) → EngineOf B → Type 0
StandsWithLonger kept engine = (one other : Pool) (events : List Event) → IsLonger one other → All (Fits (device_of engine) one) events
    → Stands kept engine one events → Stands kept engine other events

-- An engine can be made of these: the device is within its limits with its filters, and the boxes of each rack are of their places' kinds.
pub record CanBeMade {B : Type 0} (kind : B → Kind) (tables : Filters) (device : Device) (racks : RacksOf B) : Type 0 where
  pub limits : IsInLimits (seen tables device)
  pub kinds : AreRacks kind (list_of racks)

-- ---- a step, whatever events the engine stood for with a pool

-- it stands for these and the event after them
abbrev pub StandsForNext : {B : Type 0} → (B → Kept) → Pool → Event → EngineOf B → EngineOf B → Type 0
StandsForNext kept pool event old new = (events : List Event) → Stands kept old pool events
    → Stands kept new pool (events ++ event ∷ [])

-- its reply is the story's after them
abbrev pub RepliesAsTold : {B : Type 0} → (B → Kept) → Pool → Event → EngineOf B → Reply → Type 0
RepliesAsTold kept pool event engine reply = (events : List Event) → Stands kept engine pool events
    → reply ≡ reply_to (device_of engine) (story_of (device_of engine) pool events) event

-- the bytes that it gives to the device are those by which the device's text grows
abbrev pub HandsOver : {B : Type 0} → (B → Kept) → Pool → Event → EngineOf B → List ℕ → Type 0
HandsOver kept pool event engine handed = (events : List Event) → Stands kept engine pool events
    → device_text (device_of engine) pool (events ++ event ∷ []) ≡ device_text (device_of engine) pool events ++ handed

-- and without a shortage they end the text of the runs from their starts to their ends
abbrev pub HandsOverPlain : {B : Type 0} → (B → Kept) → Pool → Event → EngineOf B → List ℕ → Type 0
HandsOverPlain kept pool event engine handed = (events : List Event) → Stands kept engine pool events
    → HasNoShortage (story_of (device_of engine) pool (events ++ event ∷ []))
    → plain_text (device_of engine) pool (events ++ event ∷ []) ≡ device_text (device_of engine) pool events ++ handed

-- where it is the start of a group, and accepted, all members start as one
abbrev pub BeginsAsOne : {B : Type 0} → (B → Kept) → Pool → Event → EngineOf B → Result Answer Errno → Type 0
BeginsAsOne kept pool event engine result = (events : List Event) (fd group : ℕ) → Stands kept engine pool events → event ≡ StartGroup fd group
    → IsOk result → StartAsOne (device_of engine) group (story_of (device_of engine) pool events) (story_of (device_of engine) pool (events ++ event ∷ []))

-- no mapped run is ever short: its pieces stand in their place, whatever happened
abbrev pub MappedStandInPlace : {B : Type 0} → (B → Kept) → Pool → Event → EngineOf B → Type 0
MappedStandInPlace kept pool event engine = (events : List Event) (slot : ℕ) → Stands kept engine pool events
    → let story = story_of (device_of engine) pool (events ++ event ∷ []) in
    All (λ run. IsUnbroken run × IsInPlace (device_of engine) story.desk.mixed run) (story.map_runs slot)

-- the area of each mapped slot stays, but that of the event's own channel, which goes by its own book and the bytes that the event brings
abbrev pub AreasGoAlone : {B : Type 0} → (B → Kept) → Pool → Event → EngineOf B → Type 0
AreasGoAlone kept pool event engine = (events : List Event) → Stands kept engine pool events
    → ChangesOneArea (device_of engine) pool event (story_of (device_of engine) pool events) (story_of (device_of engine) pool (events ++ event ∷ []))

-- whatever bytes were kept, the bytes of its reply are those that were kept in the slot of the event
abbrev pub AnswersKept : {B : Type 0} → Event → EngineOf B → List ℕ → Type 0
AnswersKept event engine got = (bytes : ℕ → List ℕ) → AllHoldUnread (record_channels engine.parent) bytes
    → got ≡ bytes_answered (device_of engine) (desk_of engine) bytes event

-- those of a read wait at the front of its own ring
abbrev pub TakesFront : {B : Type 0} → Event → EngineOf B → List ℕ → Type 0
TakesFront event engine got = (fd count : ℕ) → event ≡ Read fd count
    → got ≡ front_taken (waiting_in engine) count (held_by (desk_of engine) fd)

-- a step on an event that a script names, with its pool
pub record StepsAs {B : Type 0} (kept : B → Kept) (pool : Pool) (event : Event) (old new : EngineOf B) (told : Reply) (handed : List ℕ) : Type 0 where
  pub stands : StandsForNext kept pool event old new
  pub reply : RepliesAsTold kept pool event old told
  pub bytes : HandsOver kept pool event old handed
  pub plain : HandsOverPlain kept pool event old handed
  pub mapped : MappedStandInPlace kept pool event old
  pub together : BeginsAsOne kept pool event old told.result
  pub areas : AreasGoAlone kept pool event old

-- a step on an event that brings such bytes and samples is the step on each event of a script that is the same
abbrev pub StepsAsCalled : {B : Type 0} → (B → Kept) → Event → List ℕ → List ℤ → EngineOf B → EngineOf B → Reply → List ℕ → Type 0
StepsAsCalled kept event bytes samples old new told handed = (pool : Pool) (named : Event) → IsCalled (device_of old) old.parent.handed event bytes samples pool named
    → StepsAs kept pool named old new told handed

-- how many samples an event brings to an engine's device
abbrev pub samples_most : {B : Type 0} → EngineOf B → Event → ℕ
samples_most engine event = samples_asked engine.parent.device.settings.layout event

-- those that are at hand in an engine
abbrev pub samples_at_hand : {B : Type 0} → EngineOf B → Event → List ℤ
samples_at_hand engine event = take (samples_most engine event) (fixed_items engine.captured)

-- ---- what holds of every engine

-- the book of each slot that plays is in order
abbrev pub BooksAreSafe : DeviceSeen → Desk → Type 0
BooksAreSafe device desk = (slot : ℕ) → PlayIsSafe (play_rate_at device (play_at device desk slot)) (play_at device desk slot)

-- and where the mix and the device are, no run gave a frame past what is mixed, and none that drains is over
abbrev pub BooksAreHere : DeviceSeen → Desk → Type 0
BooksAreHere device desk = (slot : ℕ) → PlayIsHere (play_rate_at device (play_at device desk slot)) (desk_here device desk) (play_at device desk slot)

-- the book of each slot that records is in order
abbrev pub RecordsAreSafe : DeviceSeen → Desk → Type 0
RecordsAreSafe device desk = (slot : ℕ) → RecordIsSafe (record_rate_at device (record_at device desk slot)) (record_at device desk slot)

-- the book of each mapped slot is in order
abbrev pub MapBooksAreSafe : DeviceSeen → Desk → Type 0
MapBooksAreSafe device desk = (slot : ℕ) → MapIsSafe (map_rate_at device (map_at device desk slot)) (map_at device desk slot)

-- No ring passes its size: that of a channel has room for the fragments of its book, and the device's is always full.
pub record RingsHold {B : Type 0} (engine : EngineOf B) : Type 0 where
  pub playing : All (λ channel. length channel.path.ring.bytes ≤ ring_bytes channel.book.opening) (play_channels engine.parent)
  pub recording : All (λ channel. length channel.path.ring.bytes ≤ ring_bytes channel.book.opening) (record_channels engine.parent)
  pub device : length engine.parent.ring.bytes ≡ ring_frames (device_of engine) * device_frame_bytes (device_of engine)

-- The device is within its limits, each box of the engine is of its place's kind, each channel and the bus are as far as
-- their counts say, all books are in order, and no ring passes its size. Every engine is so, from its first moment on, with whatever pools it is stepped; no type can say it of boxes.
pub record AreReady {B : Type 0} (kind : B → Kind) (kept : B → Kept) (engine : EngineOf B) : Type 0 where
  pub limits : IsInLimits (device_of engine)
  pub playing : All (IsPlayReady kind kept engine.tables) (play_channels engine.parent)
  pub recording : All (IsRecordReady kind kept engine.tables) (record_channels engine.parent)
  pub mapped : All (IsMapReady kind kept engine.tables) (map_channels engine.parent)
  pub bus : HasBus kept (device_of engine) engine.parent
  pub books : BooksAreSafe (device_of engine) (desk_of engine)
  pub places : BooksAreHere (device_of engine) (desk_of engine)
  pub records : RecordsAreSafe (device_of engine) (desk_of engine)
  pub maps : MapBooksAreSafe (device_of engine) (desk_of engine)
  pub members : MembersWait (device_of engine) (desk_of engine)
  pub rings : RingsHold engine

-- An engine can step on an event: it is ready, its life has as many frames left as the event gives to the device, and there is room for their bytes.
pub record CanStep {B : Type 0} (kind : B → Kind) (kept : B → Kept) (engine : EngineOf B) (event : Event) (out : List ℕ) : Type 0 where
  pub ready : AreReady kind kept engine
  pub room : bytes_handed (device_of engine) event ≤ length out
  pub life : engine.parent.handed + frames_taken event ≤ LIFE

-- And so it can on one that keeps the limits of the device, and comes with as many bytes as it names.
pub record CanStepWith {B : Type 0} (kind : B → Kind) (kept : B → Kept) (engine : EngineOf B) (event : Event) (brought out : List ℕ) : Type 0 where
  pub within : IsAllowed (device_of engine) event
  pub bytes : length brought ≡ bytes_asked event
  pub step : CanStep kind kept engine event out

-- All is as before: channels with their books, rings and chains, descriptors, the device's ring and counts.
pub record IsUnchanged {B : Type 0} (old new : EngineOf B) : Type 0 where
  pub parent_same : new.parent ≡ old.parent
  pub descriptors_same : new.descriptors ≡ old.descriptors

-- ---- a step, whatever pools the engine was stepped with

-- The desk and the reply of a step are those of the rules, by the device alone. No client sees what others do, but that a slot is taken: no
-- book depends on another, and a read gets what was kept in its own slot, by its own book.
pub record GoesByRules {B : Type 0} (kept : B → Kept) (event : Event) (old new : EngineOf B) (told : Reply) : Type 0 where
  pub device : device_of new ≡ device_of old
  pub handed : new.parent.handed ≡ old.parent.handed + frames_taken event
  pub desk : desk_of new ≡ (after (device_of old) (desk_of old) event).desk
  pub result : told.result ≡ (after (device_of old) (desk_of old) event).reply
  pub refused : IsErr told.result → IsUnchanged old new
  pub isolated : IsIsolated (device_of old) event (desk_of old) (desk_of new) told.result
  pub read : AnswersKept event old told.bytes
  pub taken : TakesFront event old told.bytes

-- What a step on an event makes of an engine that is ready: it goes by the rules and is ready again, and its device bytes, of which there are
-- `size`, stand at the front of a room.
pub record HasStepped {B : Type 0} (kind : B → Kind) (kept : B → Kept) (event : Event) (old new : EngineOf B) (told : Reply) (size : ℕ) (room filled : List ℕ) : Type 0 where
  pub rules : GoesByRules kept event old new told
  pub ready : AreReady kind kept new
  -- The counts of every book are in order, no run gave a frame past what is mixed or is over and goes on, and no ring passes its size.
  pub safe : BooksAreSafe (device_of new) (desk_of new)
  pub records_safe : RecordsAreSafe (device_of new) (desk_of new)
  pub maps_safe : MapBooksAreSafe (device_of new) (desk_of new)
  pub places : BooksAreHere (device_of new) (desk_of new)
  pub rings : RingsHold new
  -- no two descriptors hold one slot, and the members of groups wait
  pub apart : HoldApart (desk_of new)
  pub members : MembersWait (device_of new) (desk_of new)
  pub count : size ≡ bytes_handed (device_of old) event
  pub rest : drop size filled ≡ drop size room

-- The channels that are mixed, by slot.
use Rattle.std.specs.Prelude.{◌≡◌, ℕ, ◌+◌, ◌^◌, ◌<◌, ◌≤◌, List, [], length, map, slice_index_or, All}
use Rattle.pcm_sequence.specs.declared.fixed.Fixed.{Fixed}
use Rattle.pcm_sequence.specs.Fixed.{fixed_items, fixed_len}
use Rattle.pcm_oss.specs.declared.event.TheConstants.{SLOTS}
use Rattle.pcm_feeder.specs.declared.kind.Kind.{Kind}
use Rattle.pcm_desk.specs.declared.device.Device.{Device}
use Rattle.pcm_desk.specs.declared.map_book.MapBook.{MapBook}
use Rattle.pcm_desk.specs.declared.play_book.PlayBook.{PlayBook}
use Rattle.pcm_feeder.specs.Filters.{Filters}
use Rattle.pcm_feeder.specs.Kept.{Kept}
use Rattle.pcm_desk.specs.Channels.{map_mixing, mixing}
use Rattle.pcm_desk.specs.Device.{DeviceSeen, seen}
use Rattle.pcm_play.specs.declared.channel.PlayChannelOf.{PlayChannelOf}
use Rattle.pcm_play.specs.Channels.{IsPlayReady, PlayMoves, PlayStands}
use Rattle.pcm_map.specs.declared.channel.MapChannelOf.{MapChannelOf}
use Rattle.pcm_map.specs.Channels.{CountsFit, IsMapReady, MapStands, MapTakes, area_of}

-- the books of channels, by slot
abbrev pub play_books_of : {B : Type 0} → List (PlayChannelOf B) → List PlayBook
play_books_of channels = map (λ channel. channel.book) channels

-- each channel is of one device
abbrev pub PlayAreOf : {B : Type 0} → Device → List (PlayChannelOf B) → Type 0
PlayAreOf device channels = All (λ channel. channel.path.device ≡ device) channels

-- what holds of each channel, before and after
abbrev pub Each : {X : Type 0} → (X → X → Type 0) → List X → List X → Type 0
Each {X} how old new = (slot : ℕ) (other : X) → slot < length old → how (slice_index_or old slot other) (slice_index_or new slot other)

-- what is left of each of some channels, and they are as many
pub record AreLeft {X : Type 0} (leaves : X → X → Type 0) (old new : Fixed X) : Type 0 where
  pub len : fixed_len new ≡ fixed_len old
  pub each : Each leaves (fixed_items old) (fixed_items new)

-- the book of a channel once n frames were mixed, after `mixed` before
abbrev pub Mixes : {B : Type 0} → DeviceSeen → ℕ → ℕ → PlayChannelOf B → PlayChannelOf B → Type 0
Mixes device mixed n old new = new.book ≡ mixing device mixed n old.book

-- each channel stands for its book and the bytes of its slot
abbrev pub AllPlayStand : {B : Type 0} → (B → Kept) → Filters → List (PlayChannelOf B) → (ℕ → List ℕ) → Type 0
AllPlayStand kept filters channels streams = (slot : ℕ) (other : PlayChannelOf _) → slot < length channels
    → PlayStands kept filters (slice_index_or channels slot other) (slice_index_or channels slot other).book (streams slot)

-- a channel of this device is ready for an interrupt that mixes `frames` frames, and its counts have room for them
pub record IsPlayDue {B : Type 0} (kind : B → Kind) (keeps : B → Kept) (filters : Filters) (device : Device) (frames : ℕ) (channel : PlayChannelOf B) : Type 0 where
  pub own : channel.path.device ≡ device
  pub ready : IsPlayReady kind keeps filters channel
  pub given : channel.book.given + frames < 2 ^ 64
  pub counted : channel.book.done + channel.book.written < 2 ^ 64

-- what an interrupt that mixes `frames` frames, after `mixed` before, leaves of a channel of a device
pub record PlayMixes {B : Type 0} (kind : B → Kind) (kept : B → Kept) (filters : Filters) (device : Device) (mixed frames : ℕ) (old new : PlayChannelOf B) : Type 0 where
  pub own : new.path.device ≡ device
  pub moves : PlayMoves kind kept filters [] frames old new
  pub book : Mixes (seen filters device) mixed frames old new

-- their books, by slot
abbrev pub map_books_of : {B : Type 0} → List (MapChannelOf B) → List MapBook
map_books_of channels = map (λ channel. channel.book) channels

-- each is of one device
abbrev pub MapAreOf : {B : Type 0} → Device → List (MapChannelOf B) → Type 0
MapAreOf device channels = All (λ channel. channel.path.device ≡ device) channels

-- a channel stands for its book and the bytes that were taken in its slot, and this stands in its area
pub record MapStandsWith {B : Type 0} (kept : B → Kept) (filters : Filters) (taken content : List ℕ) (channel : MapChannelOf B) : Type 0 where
  pub stands : MapStands kept filters channel channel.book taken
  pub area : area_of channel ≡ content

-- so does each
abbrev pub AllMapStand : {B : Type 0} → (B → Kept) → Filters → List (MapChannelOf B) → (ℕ → List ℕ) → (ℕ → List ℕ) → Type 0
AllMapStand kept filters channels taken areas = (slot : ℕ) (other : MapChannelOf _) → slot < length channels
    → MapStandsWith kept filters (taken slot) (areas slot) (slice_index_or channels slot other)

-- a channel of this device is ready for an interrupt that mixes `frames` frames, and its counts have room for them
pub record IsMapDue {B : Type 0} (kind : B → Kind) (keeps : B → Kept) (filters : Filters) (device : Device) (frames : ℕ) (channel : MapChannelOf B) : Type 0 where
  pub own : channel.path.device ≡ device
  pub ready : IsMapReady kind keeps filters channel
  pub counted : CountsFit filters frames channel

-- what an interrupt that mixes `frames` frames leaves of a channel: it takes what stands in the area, which stays
pub record MapPlays {B : Type 0} (kind : B → Kind) (kept : B → Kept) (filters : Filters) (device : Device) (frames : ℕ) (old new : MapChannelOf B) : Type 0 where
  pub book : new.book ≡ map_mixing (seen filters device) frames old.book
  pub moves : MapTakes kind kept filters frames old new
  pub area : area_of new ≡ area_of old

-- which is of a device still
pub record MapMixes {B : Type 0} (kind : B → Kind) (kept : B → Kept) (filters : Filters) (device : Device) (mixed frames : ℕ) (old new : MapChannelOf B) : Type 0 where
  pub own : new.path.device ≡ device
  pub plays : MapPlays kind kept filters device frames old new

-- ---- both

-- each channel of a device is ready for an interrupt that mixes `frames` frames after `mixed`, the channels are few enough for their
-- slots, and the frames for a count
pub record AreMixDue {B : Type 0} (kind : B → Kind) (kept : B → Kept) (filters : Filters) (device : Device) (mixed frames : ℕ)
    (channels : Fixed (PlayChannelOf B)) (maps : Fixed (MapChannelOf B)) : Type 0 where
  pub count : mixed + frames < 2 ^ 64
  pub few : fixed_len channels + fixed_len maps ≤ SLOTS
  pub playing : All (IsPlayDue kind kept filters device frames) (fixed_items channels)
  pub mapped : All (IsMapDue kind kept filters device frames) (fixed_items maps)

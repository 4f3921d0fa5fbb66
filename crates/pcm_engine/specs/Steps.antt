-- What one event leaves of an engine's parts.
use Rattle.std.specs.Prelude.{◌≡◌, ℕ, ℤ, if◌then◌else◌, min, List, [], take, drop, Option, Some, None, slice_index_or}
use Rattle.pcm_engine.specs.Types.{Device, Event, Filters, Held, Kept, Kind}
use Rattle.pcm_oss.specs.declared.event.Event.TheVariants.{Write, Poke, Read, Intr}
use Rattle.pcm_mixdev.specs.Mixers.{Levels}
use Rattle.pcm_chain.specs.declared.chain.ChainOf.{ChainOf}
use Rattle.pcm_desk.specs.Device.{DeviceSeen, device_filters, seen}
use Rattle.pcm_desk.specs.Channels.{Channel, Mapped, Playing, Recording, by_way, mixed_by}
use Rattle.pcm_desk.specs.Desk.{Desk, channel_at, held_by}
use Rattle.pcm_desk.specs.RecordBooks.{record_fill_of}
use Rattle.pcm_play.specs.declared.channel.PlayChannelOf.{PlayChannelOf}
use Rattle.pcm_play.specs.Channels.{PlayMoves}
use Rattle.pcm_record.specs.declared.channel.RecordChannelOf.{RecordChannelOf}
use Rattle.pcm_record.specs.Channels.{RecordMoves}
use Rattle.pcm_map.specs.declared.channel.MapChannelOf.{MapChannelOf}
use Rattle.pcm_sound.specs.Areas.{holds_map, poked}
use Rattle.pcm_bus.specs.Slots.{Each, MapPlays}
use Rattle.pcm_vchan.specs.Slots.{MapKeeps}
use Rattle.pcm_vchan.specs.Starts.{EachAt}
use Rattle.pcm_bus.specs.Buses.{TurnsBus}
use Rattle.pcm_vchan.specs.Captures.{Captures}

-- the bytes that an event moves into rings, of those that it brings
abbrev pub bytes_moved : List ℕ → Event → List ℕ
bytes_moved bytes (Write fd source at count) = bytes
bytes_moved bytes event = []

-- what a poke writes into the area of each slot
abbrev pub poked_by : ℕ → ℕ → List ℕ → Desk → ℕ → List ℕ → List ℕ
poked_by fd offset bytes desk slot area = if holds_map (held_by desk fd) slot then poked offset bytes area else area

-- what an event writes there, of the bytes that it brings
abbrev pub area_written : List ℕ → Desk → Event → ℕ → List ℕ → List ℕ
area_written bytes desk (Poke fd offset at count) slot area = poked_by fd offset bytes desk slot area
area_written bytes desk event slot area = area

-- the frames that an event mixes, where the device had been given `handed` frames before
abbrev pub frames_mixed : DeviceSeen → ℕ → Event → ℕ
frames_mixed device handed (Intr n) = mixed_by device handed n
frames_mixed device handed event = 0

-- the channels after an event that brings these bytes, where the device had been given `handed` frames before
abbrev pub ChannelsMove : {B : Type 0} → (B → Kind) → (B → Kept) → DeviceSeen → List ℕ → ℕ → Event → List (PlayChannelOf B) → List (PlayChannelOf B) → Type 0
ChannelsMove kind kept device bytes handed event old new =
    Each (PlayMoves kind kept (device_filters device) (bytes_moved bytes event) (frames_mixed device handed event)) old new

-- the chain between the mix and the device, and the device's ring, after an event
abbrev pub BusMoves : {B : Type 0} → (B → Kept) → DeviceSeen → ℕ → Levels → Event → List (PlayChannelOf B) → List (MapChannelOf B) → ChainOf B → ChainOf B → List ℕ → List ℕ → Type 0
BusMoves kept device handed mixer (Intr n) channels maps old new ring after = TurnsBus kept device handed n mixer channels maps old new ring after
BusMoves kept device handed mixer event channels maps old new ring after = (new ≡ old) × (after ≡ ring)

-- the mapped channels after an event at a desk that brings such bytes: an interrupt takes what stands in their areas, and another event
-- writes into these what the rules say
abbrev pub MapsMove : {B : Type 0} → (B → Kind) → (B → Kept) → Filters → Device → List ℕ → Desk → Event → List (MapChannelOf B) → List (MapChannelOf B) → Type 0
MapsMove kind kept filters device bytes desk (Intr n) old new = Each (MapPlays kind kept filters device (mixed_by (seen filters device) desk.handed n)) old new
MapsMove kind kept filters device bytes desk event old new = EachAt (λ slot. MapKeeps kind kept filters (area_written bytes desk event slot)) old new

-- the channels that record after an event that brings such samples
abbrev pub RecordersMove : {B : Type 0} → (B → Kind) → (B → Kept) → DeviceSeen → List ℤ → Event → List (RecordChannelOf B) → List (RecordChannelOf B) → Type 0
RecordersMove kind kept device samples (Intr n) old new = Each (Captures kind kept device n samples) old new
RecordersMove kind kept device samples event old new = Each (RecordMoves kind kept (device_filters device) [] 0) old new

-- the bytes that a read of `count` bytes gets of a channel, from those that were kept of its recording: the oldest that no read got
abbrev pub channel_read : ℕ → Channel → List ℕ → List ℕ
channel_read count (Playing book) bytes = []
channel_read count (Recording book) bytes = take (min count (record_fill_of book)) (drop book.read bytes)
channel_read count (Mapped book) bytes = []

-- the bytes that a read gets of what a descriptor holds, from the bytes that were kept in each slot: it looks at its own alone
abbrev pub bytes_read : DeviceSeen → Desk → (ℕ → List ℕ) → ℕ → Option Held → List ℕ
bytes_read device desk bytes count None = []
bytes_read device desk bytes count (Some held) = channel_read count (channel_at device desk held) (bytes held.slot)

-- the same from the bytes that wait in each ring: the first ones of its own
abbrev pub front_taken : List (List ℕ) → ℕ → Option Held → List ℕ
front_taken rings count None = []
front_taken rings count (Some held) = by_way held.way [] (take count (slice_index_or rings held.slot [])) []

-- the bytes that come with the reply to an event
abbrev pub bytes_answered : DeviceSeen → Desk → (ℕ → List ℕ) → Event → List ℕ
bytes_answered device desk bytes (Read fd count) = bytes_read device desk bytes count (held_by desk fd)
bytes_answered device desk bytes event = []

-- So many bytes of the device's ring are put at the front of a room, whose rest stays.
pub record PutsFront (size : ℕ) (ring room filled : List ℕ) (count : ℕ) : Type 0 where
  pub size_is : count ≡ size
  pub front : take count filled ≡ take count ring
  pub rest : drop count filled ≡ drop count room

-- What an engine's parts stand for: the story of a list of events.
use Rattle.std.specs.Prelude.{◌≡◌, ℕ, ◌*◌, ◌<◌, List, length, drop, slice_index_or, take}
use Rattle.pcm_engine.specs.Types.{Kept, Pool}
use Rattle.pcm_format.specs.Frames.{Frame}
use Rattle.pcm_wave.specs.Pools.{captured_frames}
use Rattle.pcm_chain.specs.declared.chain.ChainOf.{ChainOf}
use Rattle.pcm_desk.specs.Device.{DeviceSeen, device_frame_bytes, device_settings, device_filters, mixed_for}
use Rattle.pcm_desk.specs.MapBooks.{taken_of}
use Rattle.pcm_desk.specs.Desk.{Desk, map_at, play_at, record_at}
use Rattle.pcm_sound.specs.Runs.{newest_bytes}
use Rattle.pcm_sound.specs.Story.{Story}
use Rattle.pcm_sound.specs.DeviceList.{device_bytes, mix_at, mixed_frames, table_of}
use Rattle.pcm_sound.specs.Valid.{RecordingsAreValid, StoryIsValid}
use Rattle.pcm_play.specs.declared.channel.PlayChannelOf.{PlayChannelOf}
use Rattle.pcm_play.specs.Channels.{PlayStands}
use Rattle.pcm_record.specs.declared.channel.RecordChannelOf.{RecordChannelOf}
use Rattle.pcm_record.specs.Channels.{RecordStands}
use Rattle.pcm_map.specs.declared.channel.MapChannelOf.{MapChannelOf}
use Rattle.pcm_map.specs.Channels.{MapStands, area_of}
use Rattle.pcm_bus.specs.Handovers.{HasMade}

-- the bytes that a slot's book counts: those of its newest run, unless it is over
abbrev pub bytes_counted : DeviceSeen → Story → ℕ → List ℕ
bytes_counted device story slot = take (play_at device story.desk slot).written (newest_bytes (story.runs slot))

-- the bytes that a mapped slot's book has taken: those of its newest run, unless it is over
abbrev pub map_bytes_counted : DeviceSeen → Story → ℕ → List ℕ
map_bytes_counted device story slot = take (taken_of (map_at device story.desk slot)) (newest_bytes (story.map_runs slot))

-- a mapped channel stands for its slot of a story: for the book, the bytes that it has taken, and what stands in the area
pub record MapSlotStands {B : Type 0} (kept : B → Kept) (device : DeviceSeen) (story : Story) (slot : ℕ) (channel : MapChannelOf B) : Type 0 where
  pub stands : MapStands kept (device_filters device) channel (map_at device story.desk slot) (map_bytes_counted device story slot)
  pub area : area_of channel ≡ story.areas slot

-- all frames that a story has mixed, at 32 bits, as many as those need that the device has been given
abbrev pub story_frames : DeviceSeen → Story → ℕ → List Frame
story_frames device story handed = mixed_frames device (mix_at device story.faders (table_of device story)) (mixed_for device handed)

-- A desk, channels, the chain between the mix and the device, and a device's ring stand for a story: the desk is the story's, each
-- channel stands for its slot's book and the bytes that it counts, and a mapped one for its area besides, the chain has made of what was
-- mixed as many frames as the device has been given, and the device's ring holds those that it hasn't been given.
pub record PartsStand {B : Type 0} (kept : B → Kept) (device : DeviceSeen) (desk : Desk) (channels : List (PlayChannelOf B)) (maps : List (MapChannelOf B)) (chain : ChainOf B) (ring : List ℕ) (story : Story) : Type 0 where
  pub desk_is : desk ≡ story.desk
  pub slots : (slot : ℕ) (other : PlayChannelOf B) → slot < length channels
      → PlayStands kept (device_filters device) (slice_index_or channels slot other) (play_at device story.desk slot) (bytes_counted device story slot)
  pub mapped : (slot : ℕ) (other : MapChannelOf B) → slot < length maps → MapSlotStands kept device story slot (slice_index_or maps slot other)
  pub bus : HasMade kept device chain (story_frames device story story.desk.handed) story.desk.handed
  pub ring_is : ring ≡ drop (story.desk.handed * device_frame_bytes device) (device_bytes device story)
  pub valid : StoryIsValid device story

-- the bytes that a record book counts of its recording
abbrev pub bytes_kept : DeviceSeen → Story → ℕ → List ℕ
bytes_kept device story slot = take (record_at device story.desk slot).kept (story.recordings slot).kept

-- the frames of the device that a record book counts, from its recording's start on
abbrev pub frames_captured : DeviceSeen → Pool → Story → ℕ → List Frame
frames_captured device pool story slot =
    captured_frames (device_settings device).layout pool (story.recordings slot).start (record_at device story.desk slot).captured

-- Channels that record stand for a story: each for its slot's book, the bytes that were kept and the frames that were captured.
pub record RecordersStand {B : Type 0} (kept : B → Kept) (device : DeviceSeen) (pool : Pool) (recorders : List (RecordChannelOf B)) (story : Story) : Type 0 where
  pub slots : (slot : ℕ) (other : RecordChannelOf B) → slot < length recorders
      → RecordStands kept (device_filters device) (slice_index_or recorders slot other) (record_at device story.desk slot) (bytes_kept device story slot) (frames_captured device pool story slot)
  pub valid : RecordingsAreValid device pool story

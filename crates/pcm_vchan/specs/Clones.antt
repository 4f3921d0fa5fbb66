-- What channels leave that go on where others are, and what a parent's clone is.
use Rattle.std.specs.Prelude.{◌≡◌, ◌<◌, ℕ, List, All, length, slice_index_or}
use Rattle.pcm_format.specs.Frames.{Frame}
use Rattle.pcm_feeder.specs.declared.kind.Kind.{Kind}
use Rattle.pcm_feeder.specs.Kept.{Kept}
use Rattle.pcm_chain.specs.Chains.{plan_in}
use Rattle.pcm_desk.specs.declared.device.Device.{Device}
use Rattle.pcm_desk.specs.Device.{DeviceSeen}
use Rattle.pcm_path.specs.declared.path.PathOf.{PathOf}
use Rattle.pcm_path.specs.Paths.{HasBoxes}
use Rattle.pcm_path.specs.Resumes.{ChannelResumes}
use Rattle.pcm_play.specs.Channels.{PlayStandsAs}
use Rattle.pcm_record.specs.Channels.{RecordStandsAs}
use Rattle.pcm_map.specs.Channels.{MapStandsAs}
use Rattle.pcm_bus.specs.Handovers.{HasMade, HasMadeFar}
use Rattle.pcm_bus.specs.Slots.{Each}
use Rattle.pcm_vchan.specs.declared.parent.ParentOf.{ParentOf}
use Rattle.pcm_vchan.specs.Parents.{map_channels, play_channels, record_channels}

-- each channel of a way went on where that of its slot is among others
pub record SlotsResume {B C : Type 0} (path : C → PathOf B) (stands_as : C → C → Type 0) (kind : B → Kind) (mark : B → ℕ) (others old new : List C) : Type 0 where
  pub count : length new ≡ length old
  pub each : (slot : ℕ) (other : C) → slot < length others
      → ChannelResumes path stands_as kind mark (slice_index_or others slot other) (slice_index_or old slot other) (slice_index_or new slot other)

-- as many channels of a device, with the boxes of racks: each stands for whatever that of its slot does
pub record SlotsStandAs {B C : Type 0} (path : C → PathOf B) (stands_as : C → C → Type 0) (kind : B → Kind) (device : Device) (others channels : List C) : Type 0 where
  pub count : length channels ≡ length others
  pub own : All (λ channel. (path channel).device ≡ device) channels
  pub kinds : All (λ channel. HasBoxes kind (path channel)) channels
  pub stand : Each stands_as others channels

-- A parent's clone: the channels of each way stand for whatever the parent's do, and the bus has made whatever the parent's has. All else is the same: the
-- device and its ring, the mixer device and the counts.
pub record IsParentClone {B : Type 0} (kind : B → Kind) (kept : B → Kept) (parent clone : ParentOf B) : Type 0 where
  pub device : clone.device ≡ parent.device
  pub playing : SlotsStandAs (λ channel. channel.path) (PlayStandsAs kept) kind parent.device (play_channels parent) (play_channels clone)
  pub recording : SlotsStandAs (λ channel. channel.path) (RecordStandsAs kept) kind parent.device (record_channels parent) (record_channels clone)
  pub mapped : SlotsStandAs (λ channel. channel.path) (MapStandsAs kept) kind parent.device (map_channels parent) (map_channels clone)
  pub mixer : clone.mixer ≡ parent.mixer
  pub plan : plan_in clone.bus.chain ≡ plan_in parent.bus.chain
  pub far : (device : DeviceSeen) (handed : ℕ) → HasMadeFar kept device parent.bus.chain handed → HasMadeFar kept device clone.bus.chain handed
  pub made : (device : DeviceSeen) (x : List Frame) (handed : ℕ) → HasMade kept device parent.bus.chain x handed → HasMade kept device clone.bus.chain x handed
  pub ring : clone.ring.bytes ≡ parent.ring.bytes
  pub handed : clone.handed ≡ parent.handed
  pub mixed : clone.mixed ≡ parent.mixed

-- A parent that is like another one where that is now: its channels stand for whatever the other's do, and its bus has made what the other's has of the frames
-- that were mixed for those that were handed over. All else is the same.
pub record IsParentLike {B : Type 0} (kind : B → Kind) (kept : B → Kept) (device : DeviceSeen) (parent like : ParentOf B) : Type 0 where
  pub device_same : like.device ≡ parent.device
  pub playing : SlotsStandAs (λ channel. channel.path) (PlayStandsAs kept) kind parent.device (play_channels parent) (play_channels like)
  pub recording : SlotsStandAs (λ channel. channel.path) (RecordStandsAs kept) kind parent.device (record_channels parent) (record_channels like)
  pub mapped : SlotsStandAs (λ channel. channel.path) (MapStandsAs kept) kind parent.device (map_channels parent) (map_channels like)
  pub mixer : like.mixer ≡ parent.mixer
  pub plan : plan_in like.bus.chain ≡ plan_in parent.bus.chain
  pub far : HasMadeFar kept device parent.bus.chain parent.handed → HasMadeFar kept device like.bus.chain parent.handed
  pub made : (x : List Frame) → HasMade kept device parent.bus.chain x parent.handed → HasMade kept device like.bus.chain x parent.handed
  pub ring : like.ring.bytes ≡ parent.ring.bytes
  pub handed : like.handed ≡ parent.handed
  pub mixed : like.mixed ≡ parent.mixed

-- What an interrupt makes of a bus and of the device's ring.
use Rattle.std.specs.Prelude.{◌≡◌, ℕ, ◌+◌, ◌*◌, ◌≤◌, ℤ, List, ◌++◌, length}
use Rattle.pcm_format.specs.Frames.{Frame, frame_bytes}
use Rattle.pcm_ring.specs.Ring.{Ring}
use Rattle.pcm_feeder.specs.declared.kind.Kind.{Kind}
use Rattle.pcm_desk.specs.declared.device.Device.{Device}
use Rattle.pcm_feeder.specs.Kept.{Kept}
use Rattle.pcm_feeder.specs.declared.rack.RackOf.{RackOf}
use Rattle.pcm_feeder.specs.Racks.{IsRack}
use Rattle.pcm_feeder.specs.Streams.{interleaved}
use Rattle.pcm_plan.specs.Through.{recs}
use Rattle.pcm_chain.specs.declared.chain.ChainOf.{ChainOf}
use Rattle.pcm_mixdev.specs.Mixers.{Levels}
use Rattle.pcm_desk.specs.declared.limits.TheConstants.{MIX_FRAMES, RING_FRAMES}
use Rattle.pcm_desk.specs.Channels.{mixed_by}
use Rattle.pcm_desk.specs.Device.{DeviceSeen, device_settings, device_filters, mix_frames, parent_plan, unfiltered, HasRates}
use Rattle.pcm_play.specs.declared.channel.PlayChannelOf.{PlayChannelOf}
use Rattle.pcm_map.specs.declared.channel.MapChannelOf.{MapChannelOf}
use Rattle.pcm_bus.specs.Blocks.{AllStand, Sources, turned_ring, whole_block}
use Rattle.pcm_bus.specs.Handovers.{AreMixedFor, HasMade, HasMadeFar, IsPlannedBy, raised_frames}

-- a device that a bus can be made for, with the boxes of a rack
pub record CanCarry {B : Type 0} (kind : B → Kind) (device : Device) (rack : RackOf B) : Type 0 where
  pub rates : HasRates device
  pub ring : device.ring_frames ≤ RING_FRAMES
  pub mix : mix_frames (unfiltered device) ≤ MIX_FRAMES
  pub kinds : IsRack kind rack

-- the chain of a bus goes by its plan, and has made what was handed over
pub record BusStands {B : Type 0} (kept : B → Kept) (device : DeviceSeen) (chain : ChainOf B) (handed : ℕ) : Type 0 where
  pub planned : IsPlannedBy device chain
  pub made : HasMadeFar kept device chain handed

-- a ring of the size of a device's, which is full
pub record IsRingOf (device : Device) (ring : Ring) : Type 0 where
  pub size : ring.size ≡ device.ring_frames * frame_bytes device.settings
  pub full : length ring.bytes ≡ device.ring_frames * frame_bytes device.settings

-- the frames that channels give at an interrupt, at 32 bits, from the gains of a mixer device and what they stand for
abbrev pub mixed_at_once : {B : Type 0} → DeviceSeen → ℕ → ℕ → Levels → List (PlayChannelOf B) → List (MapChannelOf B) → Sources → List Frame
mixed_at_once device handed n mixer channels maps sources = raised_frames device (whole_block device (mixed_by device handed n) mixer channels maps sources)

-- What an interrupt of n frames means for all frames that are mixed by its end: the chain has made of them what is handed over, and the
-- device's ring gets the plan's next frames over them.
pub record TurnsTo {B : Type 0} (kept : B → Kept) (device : DeviceSeen) (handed n : ℕ) (chain : ChainOf B) (all : List Frame) (old new : List ℕ) : Type 0 where
  pub made : HasMade kept device chain all (handed + n)
  pub ring : new ≡ turned_ring (device_settings device) n (interleaved (recs (parent_plan device) (device_filters device) all handed n)) old

-- it means that of mixed samples, whatever frames were mixed and handed over before
abbrev pub HandsOn : {B : Type 0} → (B → Kept) → DeviceSeen → List ℤ → ℕ → ChainOf B → ChainOf B → List ℕ → List ℕ → Type 0
HandsOn kept device samples n old new bytes after = (x : List Frame) (handed : ℕ) → HasMade kept device old x handed
    → AreMixedFor device samples handed n → TurnsTo kept device handed n new (x ++ raised_frames device samples) bytes after

-- it means that whatever the channels stand for, and whatever frames were mixed before
abbrev pub TurnsBus : {B : Type 0} → (B → Kept) → DeviceSeen → ℕ → ℕ → Levels → List (PlayChannelOf B) → List (MapChannelOf B) → ChainOf B → ChainOf B → List ℕ → List ℕ → Type 0
TurnsBus kept device handed n mixer channels maps old new bytes after = (sources : Sources) (x : List Frame)
    → AllStand kept (device_filters device) channels maps sources → HasMade kept device old x handed
    → TurnsTo kept device handed n new (x ++ mixed_at_once device handed n mixer channels maps sources) bytes after

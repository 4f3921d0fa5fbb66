-- The state of what goes to the device: the mixer device, the device's ring, and what the bus keeps of the past.
use Rattle.std.specs.Prelude.{◌≡◌, ◌≤◌, ◌<◌, ◌^◌, ◌≤ℤ◌, ℕ, ℤ, pos, List, ◌++◌, length, take}
use Rattle.pcm_feeder.specs.declared.kind.Kind.{Kind}
use Rattle.pcm_feeder.specs.Filters.{Filters}
use Rattle.pcm_feeder.specs.Kept.{Kept}
use Rattle.pcm_chain.specs.Chains.{marks_in, IsOfKinds}
use Rattle.pcm_chain.specs.Pasts.{past_of}
use Rattle.pcm_chain.specs.declared.past.TheConstants.{PAST_SAMPLES}
use Rattle.pcm_desk.specs.Device.{mixed_for, passed_for, seen, unfiltered}
use Rattle.pcm_bus.specs.Handovers.{IsPlannedBy}
use Rattle.pcm_vchan.specs.declared.parent.ParentOf.{ParentOf}
use Rattle.pcm_vchan.specs.Parents.{HasBus}
use Rattle.pcm_state.specs.MixerRows.{mixer_row, FitsMixer}
use Rattle.pcm_state.specs.Numbers.{spelled_numbers}
use Rattle.pcm_state.specs.Samples.{sample_bytes}

-- the bytes of what goes to the device: the mixer device, the device's ring, and what the bus keeps of the past
abbrev pub output_state : {B : Type 0} → (B → Kept) → ParentOf B → List ℕ
output_state kept parent = spelled_numbers (mixer_row parent.mixer) ++ (parent.ring.bytes ++ sample_bytes (past_of kept parent.bus.chain))

-- the counts of a parent that has given so many frames to the device have room
pub record HandedFits {B : Type 0} (filters : Filters) (handed : ℕ) (parent : ParentOf B) : Type 0 where
  pub mixed : mixed_for (seen filters parent.device) handed < 2 ^ 64
  pub passed : passed_for (unfiltered parent.device) handed ≤ℤ pos (2 ^ 62)

-- a bus that can be told what it has made: its chain has the boxes of a rack and goes by the plan of its device
pub record CanTellBus {B : Type 0} (kind : B → Kind) (filters : Filters) (handed : ℕ) (past : List ℤ) (parent : ParentOf B) : Type 0 where
  pub kinds : IsOfKinds kind parent.bus.chain
  pub planned : IsPlannedBy (seen filters parent.device) parent.bus.chain
  pub fits : HandedFits filters handed parent
  pub room : PAST_SAMPLES ≤ length past

-- What goes to the device can be loaded into another parent of the same device: its bus has made what was handed over.
pub record CanOutputBeLoaded {B : Type 0} (kept : B → Kept) (filters : Filters) (saved parent : ParentOf B) : Type 0 where
  pub device : saved.device ≡ parent.device
  pub bus : HasBus kept (seen filters saved.device) saved
  pub mixer : FitsMixer saved.mixer

-- So many of the bytes spell what goes to the device. The bus has made what was handed over, and the channels are as they were.
pub record HasLoadedOutput {B : Type 0} (kind : B → Kind) (kept : B → Kept) (mark : B → ℕ) (filters : Filters) (handed : ℕ)
    (bytes : List ℕ) (count : ℕ) (old new : ParentOf B) : Type 0 where
  pub within : count ≤ length bytes
  pub told : output_state kept new ≡ take count bytes
  pub mixer : FitsMixer new.mixer
  pub device_same : new.device ≡ old.device
  pub playing_same : new.channels ≡ old.channels
  pub recording_same : new.recorders ≡ old.recorders
  pub mapped_same : new.maps ≡ old.maps
  pub kinds : IsOfKinds kind new.bus.chain
  pub marks : marks_in mark new.bus.chain ≡ marks_in mark old.bus.chain
  pub has_bus : HasBus kept (seen filters new.device) new
  pub handed_is : new.handed ≡ handed

-- The state of a parent: what goes to the device, and the channels of all slots.
use Rattle.std.specs.Prelude.{◌≡◌, ◌≤◌, ℕ, ℤ, List, ◌++◌, length, take, All}
use Rattle.std.specs.List.{flat_map}
use Rattle.pcm_feeder.specs.declared.kind.Kind.{Kind}
use Rattle.pcm_feeder.specs.Filters.{Filters}
use Rattle.pcm_feeder.specs.Kept.{Kept}
use Rattle.pcm_chain.specs.Chains.{marks_in, AreFitted, IsOfKinds}
use Rattle.pcm_desk.specs.Device.{seen}
use Rattle.pcm_desk.specs.PlayBooks.{is_play_free}
use Rattle.pcm_desk.specs.RunStates.{is_unheld}
use Rattle.pcm_path.specs.declared.path.PathOf.{PathOf}
use Rattle.pcm_path.specs.Paths.{HasBoxes}
use Rattle.pcm_play.specs.Channels.{IsPlayReady}
use Rattle.pcm_record.specs.Channels.{IsRecordReady}
use Rattle.pcm_map.specs.Channels.{IsMapReady}
use Rattle.pcm_vchan.specs.declared.parent.ParentOf.{ParentOf}
use Rattle.pcm_vchan.specs.Parents.{map_channels, play_channels, record_channels, HasBus}
use Rattle.pcm_vchan.specs.Racks.{channel_marks}
use Rattle.pcm_state.specs.MapRows.{FitsMap}
use Rattle.pcm_state.specs.MixerRows.{FitsMixer}
use Rattle.pcm_state.specs.PlayRows.{FitsPlay}
use Rattle.pcm_state.specs.RecordRows.{FitsRecord}
use Rattle.pcm_save.specs.Mapping.{map_state}
use Rattle.pcm_save.specs.Outputs.{output_state, CanOutputBeLoaded, CanTellBus}
use Rattle.pcm_save.specs.Playing.{play_state}
use Rattle.pcm_save.specs.Recording.{record_state}
use Rattle.pcm_save.specs.States.{devices_of, CanAllBeLoaded, IsHeldFitted}

-- the bytes of the channels, by slot: those that play, those that record and the mapped ones
abbrev pub slots_state : {B : Type 0} → (B → Kept) → ParentOf B → List ℕ
slots_state kept parent =
    flat_map (play_state kept) (play_channels parent) ++ (flat_map (record_state kept) (record_channels parent) ++ flat_map (map_state kept) (map_channels parent))

-- the bytes of a parent
abbrev pub parent_state : {B : Type 0} → (B → Kept) → ParentOf B → List ℕ
parent_state kept parent = output_state kept parent ++ slots_state kept parent

-- as many channels as there are slots
pub record HaveSlots {B : Type 0} (parent : ParentOf B) : Type 0 where
  pub playing : length (play_channels parent) ≡ parent.device.play_slots
  pub recording : length (record_channels parent) ≡ parent.device.record_slots
  pub mapped : length (map_channels parent) ≡ parent.device.map_slots

-- and as many volumes: every parent has them
pub record IsWholeParent {B : Type 0} (parent : ParentOf B) : Type 0 where
  pub slots : HaveSlots parent
  pub mixer : FitsMixer parent.mixer

-- a parent can be saved: its chains are fitted, those of free channels aside
pub record IsFittedParent {B : Type 0} (kept : B → Kept) (parent : ParentOf B) : Type 0 where
  pub playing : All (IsHeldFitted (λ channel. channel.path) (λ channel. is_play_free channel.book.state) kept) (play_channels parent)
  pub recording : All (IsHeldFitted (λ channel. channel.path) (λ channel. is_unheld channel.book.state) kept) (record_channels parent)
  pub mapped : All (IsHeldFitted (λ channel. channel.path) (λ channel. is_unheld channel.book.state) kept) (map_channels parent)
  pub bus : AreFitted kept parent.bus.chain

-- the numbers of its channels' books fit their types
pub record FitsParent {B : Type 0} (parent : ParentOf B) : Type 0 where
  pub playing : All (λ channel. FitsPlay channel.book) (play_channels parent)
  pub recording : All (λ channel. FitsRecord channel.book) (record_channels parent)
  pub mapped : All (λ channel. FitsMap channel.book) (map_channels parent)

-- its channels have the boxes of racks
pub record HaveAllBoxes {B : Type 0} (kind : B → Kind) (parent : ParentOf B) : Type 0 where
  pub playing : All (λ channel. HasBoxes kind channel.path) (play_channels parent)
  pub recording : All (λ channel. HasBoxes kind channel.path) (record_channels parent)
  pub mapped : All (λ channel. HasBoxes kind channel.path) (map_channels parent)

-- what a parent needs to be loaded
pub record CanLoadParent {B : Type 0} (kind : B → Kind) (filters : Filters) (handed : ℕ) (past : List ℤ) (parent : ParentOf B) : Type 0 where
  pub bus : CanTellBus kind filters handed past parent
  pub kinds : HaveAllBoxes kind parent

-- The channels of another parent can be loaded into those of this one,
pub record CanSlotsBeLoaded {B : Type 0} (kind : B → Kind) (kept : B → Kept) (filters : Filters) (saved parent : ParentOf B) : Type 0 where
  pub playing : CanAllBeLoaded (λ channel. channel.path) (IsPlayReady kind kept) (λ channel. FitsPlay channel.book) filters (play_channels saved) (play_channels parent)
  pub recording : CanAllBeLoaded (λ channel. channel.path) (IsRecordReady kind kept) (λ channel. FitsRecord channel.book) filters (record_channels saved) (record_channels parent)
  pub mapped : CanAllBeLoaded (λ channel. channel.path) (IsMapReady kind kept) (λ channel. FitsMap channel.book) filters (map_channels saved) (map_channels parent)

-- and so can all of it
pub record CanParentBeLoaded {B : Type 0} (kind : B → Kind) (kept : B → Kept) (filters : Filters) (saved parent : ParentOf B) : Type 0 where
  pub output : CanOutputBeLoaded kept filters saved parent
  pub slots : CanSlotsBeLoaded kind kept filters saved parent

-- the channels of a way are ready, of their devices, and have their boxes still
pub record WayIsLoaded {B C : Type 0} (path : C → PathOf B) (ready : Filters → C → Type 0) (mark : B → ℕ) (filters : Filters) (old new : List C) : Type 0 where
  pub are_ready : All (ready filters) new
  pub devices : devices_of path new ≡ devices_of path old
  pub marks : channel_marks path mark new ≡ channel_marks path mark old

-- so are those of all ways
pub record AllAreLoaded {B : Type 0} (kind : B → Kind) (kept : B → Kept) (mark : B → ℕ) (filters : Filters) (old new : ParentOf B) : Type 0 where
  pub playing : WayIsLoaded (λ channel. channel.path) (IsPlayReady kind kept) mark filters (play_channels old) (play_channels new)
  pub recording : WayIsLoaded (λ channel. channel.path) (IsRecordReady kind kept) mark filters (record_channels old) (record_channels new)
  pub mapped : WayIsLoaded (λ channel. channel.path) (IsMapReady kind kept) mark filters (map_channels old) (map_channels new)

-- So many of the bytes spell the channels of all slots. What goes to the device is as it was.
pub record HasLoadedSlots {B : Type 0} (kind : B → Kind) (kept : B → Kept) (mark : B → ℕ) (filters : Filters)
    (bytes : List ℕ) (count : ℕ) (old new : ParentOf B) : Type 0 where
  pub within : count ≤ length bytes
  pub told : slots_state kept new ≡ take count bytes
  pub all : AllAreLoaded kind kept mark filters old new
  pub device_same : new.device ≡ old.device
  pub mixer_same : new.mixer ≡ old.mixer
  pub bus_same : new.bus ≡ old.bus
  pub ring_same : new.ring ≡ old.ring
  pub counts : HaveSlots new
  pub handed_same : new.handed ≡ old.handed
  pub mixed_same : new.mixed ≡ old.mixed

-- So many of the bytes spell a parent. Its bus has made what was handed over and its channels are ready; they are of its device and have their
-- boxes still.
pub record HasLoadedParent {B : Type 0} (kind : B → Kind) (kept : B → Kept) (mark : B → ℕ) (filters : Filters) (handed : ℕ)
    (bytes : List ℕ) (count : ℕ) (old new : ParentOf B) : Type 0 where
  pub within : count ≤ length bytes
  pub told : parent_state kept new ≡ take count bytes
  pub all : AllAreLoaded kind kept mark filters old new
  pub device_same : new.device ≡ old.device
  pub kinds : IsOfKinds kind new.bus.chain
  pub bus_marks : marks_in mark new.bus.chain ≡ marks_in mark old.bus.chain
  pub has_bus : HasBus kept (seen filters new.device) new
  pub whole : IsWholeParent new
  pub handed_is : new.handed ≡ handed

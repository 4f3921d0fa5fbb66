-- The state of an engine, as bytes.
use Rattle.std.specs.Prelude.{◌≡◌, ℕ, List, [], ◌∷◌, ◌++◌, length}
use Rattle.pcm_engine.specs.Types.{Device, Filters, Kept, Kind}
use Rattle.pcm_feeder.specs.declared.rack.RacksOf.{RacksOf}
use Rattle.pcm_feeder.specs.Racks.{AreRacks, list_of}
use Rattle.pcm_digest.specs.Digests.{digest_of}
use Rattle.pcm_state.specs.GroupRows.{groups_row, FitsGroups}
use Rattle.pcm_state.specs.HeldRows.{held_row}
use Rattle.pcm_state.specs.Numbers.{spelled_numbers}
use Rattle.pcm_save.specs.Parents.{parent_state, IsWholeParent}
use Rattle.pcm_desk.specs.declared.limits.TheConstants.{DESCRIPTORS}
use Rattle.pcm_engine.specs.declared.limits.TheConstants.{STATE_VERSION}
use Rattle.pcm_engine.specs.declared.descriptors.Descriptors.{Descriptors}
use Rattle.pcm_engine.specs.declared.engine.EngineOf.{EngineOf}
use Rattle.pcm_engine.specs.Engines.{AreReady}

-- the numbers at its head: the version of its bytes, the digest of the device and its filters, and how many frames were handed over
abbrev pub head_row : ℕ → ℕ → List ℕ
head_row digest handed = STATE_VERSION ∷ digest ∷ handed ∷ []

-- the bytes of descriptors: who starts with whom, and what each descriptor holds
abbrev pub descriptors_state : Descriptors → List ℕ
descriptors_state descriptors = spelled_numbers (groups_row descriptors.groups) ++ spelled_numbers (held_row descriptors.held.value)

-- the bytes of an engine: its head, its descriptors and its parent
abbrev pub engine_state : {B : Type 0} → (B → Kept) → EngineOf B → List ℕ
engine_state kept engine =
    spelled_numbers (head_row (digest_of engine.tables engine.parent.device) engine.parent.handed) ++ (descriptors_state engine.descriptors ++ parent_state kept engine.parent)

-- as many descriptors and groups as there may be: all descriptors have them
pub record AreWhole (descriptors : Descriptors) : Type 0 where
  pub groups : FitsGroups descriptors.groups
  pub held : length descriptors.held.value ≡ DESCRIPTORS

-- and so has every engine for its slots
pub record IsWhole {B : Type 0} (engine : EngineOf B) : Type 0 where
  pub parent : IsWholeParent engine.parent
  pub descriptors : AreWhole engine.descriptors

-- an engine that is ready has these bytes
pub record HasState {B : Type 0} (kind : B → Kind) (kept : B → Kept) (bytes : List ℕ) (engine : EngineOf B) : Type 0 where
  pub ready : AreReady kind kept engine
  pub whole : IsWhole engine
  pub is : bytes ≡ engine_state kept engine

-- an engine is of this device, with these filters
pub record IsEngineOf {B : Type 0} (device : Device) (filters : Filters) (engine : EngineOf B) : Type 0 where
  pub device_is : engine.parent.device ≡ device
  pub filters_are : engine.tables ≡ filters

-- an engine can be saved here: it is ready, and there is just the room
pub record CanBeSaved {B : Type 0} (kind : B → Kind) (kept : B → Kept) (room : List ℕ) (engine : EngineOf B) : Type 0 where
  pub ready : AreReady kind kept engine
  pub size : length room ≡ length (engine_state kept engine)

-- and another one of its device can be made with these racks
pub record HasRacksFor {B : Type 0} (kind : B → Kind) (kept : B → Kept) (racks : RacksOf B) (engine : EngineOf B) : Type 0 where
  pub ready : AreReady kind kept engine
  pub kinds : AreRacks kind (list_of racks)

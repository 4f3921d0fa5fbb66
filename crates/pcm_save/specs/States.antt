-- What channels need and leave that are saved or loaded, whichever way they are.
use Rattle.std.specs.Prelude.{◌≡◌, ◌≤◌, ℕ, Bool, false, ℤ, List, ◌++◌, length, map, take, All}
use Rattle.std.specs.List.{flat_map}
use Rattle.pcm_sequence.specs.declared.fixed.Fixed.{Fixed}
use Rattle.pcm_sequence.specs.Fixed.{fixed_len}
use Rattle.pcm_feeder.specs.declared.kind.Kind.{Kind}
use Rattle.pcm_feeder.specs.Filters.{Filters}
use Rattle.pcm_feeder.specs.Kept.{Kept}
use Rattle.pcm_chain.specs.Chains.{marks_in, AreFitted}
use Rattle.pcm_chain.specs.declared.past.TheConstants.{PAST_SAMPLES}
use Rattle.pcm_desk.specs.declared.device.Device.{Device}
use Rattle.pcm_path.specs.declared.path.PathOf.{PathOf}
use Rattle.pcm_path.specs.Paths.{HasBoxes}
use Rattle.pcm_vchan.specs.Racks.{channel_marks}

-- unless a channel is free, its chain is fitted
abbrev pub IsHeldFitted : {B C : Type 0} → (C → PathOf B) → (C → Bool) → (B → Kept) → C → Type 0
IsHeldFitted path is_free kept channel = is_free channel ≡ false → AreFitted kept (path channel).chain

-- two channels of one device are ready with the same filters
pub record AreReadyAlike {B C : Type 0} (path : C → PathOf B) (ready : Filters → C → Type 0) (filters : Filters) (one other : C) : Type 0 where
  pub device : (path other).device ≡ (path one).device
  pub one_ready : ready filters one
  pub other_ready : ready filters other

-- the other stands for whatever the one does, and behind their bytes the same ones are left
pub record AreKnown {C : Type 0} (stands_as : C → C → Type 0) (one other : C) (more rest : List ℕ) : Type 0 where
  pub stands : stands_as one other
  pub left : rest ≡ more

-- two that are ready alike, whose bytes stand at the front of the same ones, are known
abbrev pub IsKnown : {B C : Type 0} → (C → PathOf B) → (Filters → C → Type 0) → (C → C → Type 0) → (C → List ℕ) → Type 0
IsKnown {B} {C} path ready stands_as state = (filters : Filters) (one other : C) (more rest : List ℕ) → AreReadyAlike path ready filters one other
    → state other ++ rest ≡ state one ++ more → AreKnown stands_as one other more rest

-- what a channel needs to be loaded: the boxes of a rack, and scratch for the samples of the past
pub record CanLoad {B C : Type 0} (path : C → PathOf B) (kind : B → Kind) (past : List ℤ) (channel : C) : Type 0 where
  pub kinds : HasBoxes kind (path channel)
  pub room : PAST_SAMPLES ≤ length past

-- Its state can be loaded into another one of the same device: it is ready with these filters, and its numbers fit their types.
pub record CanBeLoaded {B C : Type 0} (path : C → PathOf B) (ready : Filters → C → Type 0) (fits : C → Type 0) (filters : Filters) (saved channel : C) : Type 0 where
  pub is_ready : ready filters saved
  pub fit : fits saved
  pub device : (path saved).device ≡ (path channel).device

-- So many of the bytes spell what it keeps. It is ready, of its device, and has its boxes still.
pub record HasLoaded {B C : Type 0} (path : C → PathOf B) (state : C → List ℕ) (ready : Filters → C → Type 0) (mark : B → ℕ) (filters : Filters)
    (bytes : List ℕ) (count : ℕ) (old new : C) : Type 0 where
  pub within : count ≤ length bytes
  pub told : state new ≡ take count bytes
  pub is_ready : ready filters new
  pub device_same : (path new).device ≡ (path old).device
  pub marks : marks_in mark (path new).chain ≡ marks_in mark (path old).chain

-- ---- the channels of a way

-- as many channels as before
abbrev pub AreAsMany : {C : Type 0} → Fixed C → Fixed C → Type 0
AreAsMany old new = fixed_len new ≡ fixed_len old

-- the devices of channels
abbrev pub devices_of : {B C : Type 0} → (C → PathOf B) → List C → List Device
devices_of path channels = map (λ channel. (path channel).device) channels

-- and so what each of them needs to be loaded
pub record CanLoadAll {B C : Type 0} (path : C → PathOf B) (kind : B → Kind) (past : List ℤ) (channels : List C) : Type 0 where
  pub kinds : All (λ channel. HasBoxes kind (path channel)) channels
  pub room : PAST_SAMPLES ≤ length past

-- the states of all of them can be loaded into these
pub record CanAllBeLoaded {B C : Type 0} (path : C → PathOf B) (ready : Filters → C → Type 0) (fits : C → Type 0) (filters : Filters) (saved channels : List C) : Type 0 where
  pub are_ready : All (ready filters) saved
  pub fit : All fits saved
  pub devices : devices_of path saved ≡ devices_of path channels

-- the same of each of a list of them: their bytes stand one after another
pub record HaveLoaded {B C : Type 0} (path : C → PathOf B) (state : C → List ℕ) (ready : Filters → C → Type 0) (mark : B → ℕ) (filters : Filters)
    (bytes : List ℕ) (count : ℕ) (old new : List C) : Type 0 where
  pub within : count ≤ length bytes
  pub told : flat_map state new ≡ take count bytes
  pub are_ready : All (ready filters) new
  pub devices : devices_of path new ≡ devices_of path old
  pub marks : channel_marks path mark new ≡ channel_marks path mark old

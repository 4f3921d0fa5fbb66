-- What a conversion stands for: the body that it began with, and how many frames it has given.
use Rattle.std.specs.Prelude.{◌≡◌, ◌<◌, ◌≤◌, ℕ, ◌+◌, ◌*◌, List, ◌++◌, length, take, drop}
use Rattle.pcm_format.specs.declared.settings.Settings.{Settings}
use Rattle.pcm_format.specs.Frames.{frame_bytes, frames, whole_frames}
use Rattle.pcm_feeder.specs.declared.rack.RackOf.{RackOf}
use Rattle.pcm_feeder.specs.Kept.{Kept}
use Rattle.pcm_chain.specs.Chains.{ChainStands, HasRack}
use Rattle.pcm_convert.specs.Conversions.{block_after, block_count}
use Rattle.pcm_feeder.specs.Filters.{no_filters}
use Rattle.pcm_convert.specs.declared.conversion.ConversionOf.{ConversionOf}

-- the settings of the bytes that go in
abbrev pub source_in : {B : Type 0} → ConversionOf B → Settings
source_in conversion = conversion.source

-- the settings of the bytes that come out
abbrev pub target_in : {B : Type 0} → ConversionOf B → Settings
target_in conversion = conversion.target

-- its chain has the boxes of a rack
abbrev pub HoldsRack : {B : Type 0} → (B → ℕ) → RackOf B → ConversionOf B → Type 0
HoldsRack mark rack conversion = HasRack mark rack conversion.chain

-- A conversion has given `given` frames of a body: its chain has eaten the first whole frames, and the bytes after them, as far
-- as they were read, wait in the ring. Silence is eaten only after the last frame.
pub record ConversionStands {B : Type 0} (kept : B → Kept) (conversion : ConversionOf B) (body : List ℕ) (given : ℕ)
    : Type 0 where
  pub eaten : ℕ
  pub zeros : ℕ
  pub read : conversion.entered ≤ length body
  pub within : eaten * frame_bytes (source_in conversion) ≤ conversion.entered
  pub ring_is : conversion.ring.bytes
      ≡ drop (eaten * frame_bytes (source_in conversion)) (take conversion.entered body)
  pub chain_is : ChainStands kept no_filters conversion.chain (take eaten (frames (source_in conversion) body)) zeros given
  pub ended : 0 < zeros → (conversion.entered ≡ length body) × (eaten ≡ whole_frames (source_in conversion) (length body))

-- a conversion has given some frames of a body
abbrev pub IsUnderWay : {B : Type 0} → (B → Kept) → ConversionOf B → List ℕ → Type 0
IsUnderWay kept conversion body = (given : ℕ) × ConversionStands kept conversion body given

-- this is the size of the next block, however many frames were given
abbrev pub IsBlockSize : {B : Type 0} → (B → Kept) → ConversionOf B → List ℕ → ℕ → Type 0
IsBlockSize kept conversion body size = (given : ℕ) → ConversionStands kept conversion body given
    → size ≡ block_count (source_in conversion) (target_in conversion) body given * frame_bytes (target_in conversion)

-- the next block of this size is at the front of a buffer, and the rest of it stays
abbrev pub PutsBlock : {B : Type 0} → (B → Kept) → ConversionOf B → List ℕ → ℕ → List ℕ → List ℕ → Type 0
PutsBlock kept conversion body size before now = (given : ℕ) → ConversionStands kept conversion body given
    → now ≡ block_after (source_in conversion) (target_in conversion) body given ++ drop size before

-- a conversion has given the next block, too
abbrev pub MovesOn : {B : Type 0} → (B → Kept) → ConversionOf B → ConversionOf B → List ℕ → Type 0
MovesOn kept old new body = (given : ℕ) → ConversionStands kept old body given
    → ConversionStands kept new body (given + block_count (source_in old) (target_in old) body given)

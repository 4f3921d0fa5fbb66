-- What a device gets of mixed samples, and what its chain has made before.
use Rattle.std.specs.Prelude.{◌≡◌, ℕ, ◌+◌, ◌*◌, ℤ, List, ◌++◌, length, map}
use Rattle.pcm_format.specs.Frames.{Frame}
use Rattle.pcm_format.specs.Layouts.{channels_of}
use Rattle.pcm_feeder.specs.Kept.{Kept}
use Rattle.pcm_feeder.specs.Streams.{HaveChannels, frames_of, interleaved}
use Rattle.pcm_plan.specs.Fits.{HaveBits}
use Rattle.pcm_plan.specs.Through.{recs}
use Rattle.pcm_chain.specs.declared.chain.ChainOf.{ChainOf}
use Rattle.pcm_chain.specs.Chains.{plan_in}
use Rattle.pcm_chain.specs.Gives.{GivesExactly, IsJustSoFar}
use Rattle.pcm_desk.specs.Channels.{mixed_by}
use Rattle.pcm_desk.specs.Device.{DeviceSeen, IsDevice, device_filters, full_frame, mix_settings, mixed_for, parent_plan}

-- the device is within its limits, and a chain goes by the plan from its mix to it
pub record IsPlannedBy {B : Type 0} (device : DeviceSeen) (chain : ChainOf B) : Type 0 where
  pub limits : IsDevice device
  pub plan_is : plan_in chain ≡ parent_plan device

-- samples of the mix as frames of 32 bits
abbrev pub raised_frames : DeviceSeen → List ℤ → List Frame
raised_frames device samples =
    map (full_frame device) (frames_of (channels_of (mix_settings device).layout) samples)

-- samples are the frames that are mixed for n of the device, where `handed` were handed over before
abbrev pub AreMixedFor : DeviceSeen → List ℤ → ℕ → ℕ → Type 0
AreMixedFor device samples handed n =
    length samples ≡ mixed_by device handed n * channels_of (mix_settings device).layout

-- The frames x were mixed, at 32 bits. Of them as many frames of the device were made as were handed over: by the chain's
-- feeds or, where they are the same frames, past the chain.
pub record HasMade {B : Type 0} (kept : B → Kept) (device : DeviceSeen) (chain : ChainOf B)
    (x : List Frame) (handed : ℕ) : Type 0 where
  pub bits : HaveBits 32 x
  pub channels : HaveChannels (channels_of (mix_settings device).layout) x
  pub count : length x ≡ mixed_for device handed
  pub exactly : GivesExactly kept (device_filters device) chain x handed

-- the same by the counts alone, whatever frames were mixed
abbrev pub HasMadeFar : {B : Type 0} → (B → Kept) → DeviceSeen → ChainOf B → ℕ → Type 0
HasMadeFar kept device chain handed = IsJustSoFar kept (device_filters device) chain (mixed_for device handed) handed

-- the chain has made what was handed over, and the samples are those that are mixed for n more
pub record CanMake {B : Type 0} (kept : B → Kept) (device : DeviceSeen) (chain : ChainOf B)
    (samples : List ℤ) (n : ℕ) : Type 0 where
  pub handed : ℕ
  pub made : HasMadeFar kept device chain handed
  pub enough : AreMixedFor device samples handed n

-- the chain has made n more once they are handed over, however many were before
abbrev pub MakesOnFar : {B : Type 0} → (B → Kept) → DeviceSeen → List ℤ → ℕ
    → ChainOf B → ChainOf B → Type 0
MakesOnFar kept device samples n old new =
    (handed : ℕ) → HasMadeFar kept device old handed
    → AreMixedFor device samples handed n → HasMadeFar kept device new (handed + n)

-- What it means to hand over n frames, by the frames x that were mixed before and how many were handed
-- over: the chain has made these n too, and they are the plan's next ones over all frames.
pub record MakesMore {B : Type 0} (kept : B → Kept) (device : DeviceSeen) (samples : List ℤ) (n : ℕ)
    (chain : ChainOf B) (x : List Frame) (handed : ℕ) (given : List ℤ) : Type 0 where
  pub made : HasMade kept device chain (x ++ raised_frames device samples) (handed + n)
  pub frames : given ≡ interleaved
      (recs (parent_plan device) (device_filters device) (x ++ raised_frames device samples) handed n)

-- it means that whatever frames were mixed and handed over before
abbrev pub MakesOn : {B : Type 0} → (B → Kept) → DeviceSeen → List ℤ → ℕ
    → ChainOf B → ChainOf B → List ℤ → Type 0
MakesOn kept device samples n old new given =
    (x : List Frame) (handed : ℕ) → HasMade kept device old x handed
    → AreMixedFor device samples handed n
    → MakesMore kept device samples n new x handed given

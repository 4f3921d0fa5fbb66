-- What a device gets of mixed samples: themselves, or what its chain makes of them.
use Rattle.std.proofs.Common.{◌≡◌, ◌+◌, ◌*◌, ◌/◌, ◌%◌, ℕ, ℤ, true, List, [], ◌++◌, length, map, take, drop, All, refl, sym, ap, subst, ◌∙◌, arith}
use Rattle.std.specs.List.{range_with_len}
use Rattle.std.proofs.Math.Nat.{mul-div_cancel, mul-mod_left}
use Rattle.std.proofs.lemmas.List.{drop-map, length-append, length-map, take-map}
use Rattle.std.proofs.lemmas.List.Elements.{All-append, All-map, All-nil, All-weaker}
use Rattle.std.proofs.lemmas.Simd.{map-map}
use Rattle.pcm_num.specs.Limit.{FitsBits}
use Rattle.pcm_num.proofs.Limits.{FitsBits-mul_pow}
use Rattle.pcm_format.specs.Formats.{bits_of}
use Rattle.pcm_format.specs.Frames.{Frame}
use Rattle.pcm_format.specs.Layouts.{channels_of}
use Rattle.pcm_format.specs.Samples.{at_full}
use Rattle.pcm_format.proofs.Ranges.{map-range-same}
use Rattle.pcm_format.proofs.Spelling.{bits_of-above, bits_of-within}
use Rattle.pcm_format.proofs.Streams.{channels_of-above}
use Rattle.pcm_feeder.specs.Kept.{Kept}
use Rattle.pcm_feeder.specs.Streams.{HaveChannels, frames_of, interleaved}
use Rattle.pcm_feeder.proofs.Frames.{frame_in, frames_of-channels, interleaved-frames_of}
use Rattle.pcm_plan.specs.Fits.{HaveBits, TurnsEach}
use Rattle.pcm_plan.specs.Plans.{PlanSeen}
use Rattle.pcm_plan.specs.Through.{recs}
use Rattle.pcm_chain.specs.declared.chain.ChainOf.{ChainOf}
use Rattle.pcm_chain.specs.Chains.{plan_in}
use Rattle.pcm_chain.specs.Bits.{bits_left}
use Rattle.pcm_chain.specs.Gives.{AreJustEnough, CanGive, GivesExactly, GivesOn, GivesOnFar, IsJustSoFar, filling_frames}
use Rattle.pcm_chain.specs.Pushes.{pushed_frames}
use Rattle.pcm_chain.proofs.Far.{chain-far}
use Rattle.pcm_chain.proofs.Level.{passed-by, passed-far}
use Rattle.pcm_chain.proofs.Bits.{bits-recorded, frames_of-bits}
use Rattle.pcm_chain.proofs.Pushing.{count-frames}
use Rattle.pcm_desk.specs.Channels.{mixed_by}
use Rattle.pcm_desk.specs.Device.{DeviceSeen, IsDevice, device_settings, device_filters, device_quality, is_straight, mix_settings, mixed_for, parent_plan}
use Rattle.pcm_desk.proofs.Ratios.{mixed-behind}
use Rattle.pcm_desk.proofs.Straight.{straight-behind, straight-by, straight-channels, straight-count, straight-each}
use Rattle.pcm_bus.specs.Handovers.{AreMixedFor, CanMake, HasMade, HasMadeFar, IsPlannedBy, MakesOn, MakesOnFar, raised_frames}

-- ---- mixed samples at 32 bits

-- a function of each sample, on the samples or on their frames
frames_of-map : (f : ℤ → ℤ) (c : ℕ) (samples : List ℤ) → frames_of c (map f samples) ≡ map (map f) (frames_of c samples)
frames_of-map f c samples =
    let n = length samples / c in
    ap (λ m. map (frame_in c (map f samples)) (range_with_len 0 (m / c))) (length-map samples f)
    ∙ map-range-same (frame_in c (map f samples)) (λ k. map f (frame_in c samples k)) n
    (λ k below. ap (take c) (drop-map f (k * c) samples) ∙ take-map f c (drop (k * c) samples))
    ∙ sym (map-map (map f) (frame_in c samples) (range_with_len 0 n))

module _ (device : DeviceSeen) (samples : List ℤ) where
  -- the samples of the mix, brought to 32 bits
  abbrev pub raised : List ℤ
  raised = map (at_full (bits_of (mix_settings device).format)) samples

  -- their frames
  raised-frames : frames_of (channels_of (mix_settings device).layout) raised ≡ raised_frames device samples
  raised-frames = frames_of-map (at_full (bits_of (mix_settings device).format)) (channels_of (mix_settings device).layout) samples

  -- they have 32 bits
  raised-bits : All (FitsBits (bits_of (mix_settings device).format)) samples → HaveBits 32 (raised_frames device samples)
  raised-bits fits =
      let bits = bits_of (mix_settings device).format in
      let full : ℤ → ℤ = at_full bits in
      subst (HaveBits 32) raised-frames
      (frames_of-bits 32 (channels_of (mix_settings device).layout) raised (All-map (FitsBits 32) full samples
      (All-weaker (FitsBits bits) (λ z. FitsBits 32 (full z))
      (λ z within. FitsBits-mul_pow bits z (bits_of-above (mix_settings device).format)
      (bits_of-within (mix_settings device).format) within) samples fits)))

  -- and the channels of the mix
  raised-channels : HaveChannels (channels_of (mix_settings device).layout) (raised_frames device samples)
  raised-channels = subst (HaveChannels (channels_of (mix_settings device).layout)) raised-frames
      (frames_of-channels (channels_of (mix_settings device).layout) raised)

  -- they are the frames that are mixed for n of the device
  mixed-frames : (handed n : ℕ) → AreMixedFor device samples handed n → length (frames_of (channels_of (mix_settings device).layout) samples) ≡ mixed_by device handed n
  mixed-frames handed n mixed =
      count-frames (channels_of (mix_settings device).layout) (mixed_by device handed n) samples
      (channels_of-above (mix_settings device).layout) mixed

  raised-count : (handed n : ℕ) → AreMixedFor device samples handed n → length (raised_frames device samples) ≡ mixed_by device handed n
  raised-count handed n mixed =
      length-map (frames_of (channels_of (mix_settings device).layout) samples) (map (at_full (bits_of (mix_settings device).format)))
      ∙ mixed-frames handed n mixed

-- ---- what a chain has made

-- one that begins has made nothing yet
pub made-nothing : {B : Type 0} (kept : B → Kept) (device : DeviceSeen) (chain : ChainOf B)
    → GivesExactly kept (device_filters device) chain [] 0 → HasMade kept device chain [] 0
made-nothing kept device chain begins = record {
  bits = All-nil (λ (frame : Frame). All (FitsBits 32) frame);
  channels = All-nil (λ (frame : Frame). length frame ≡ channels_of (mix_settings device).layout);
  count = refl;
  exactly = begins;
}

-- it has made n frames more, where it stands so
made-more : {B : Type 0} (kept : B → Kept) (device : DeviceSeen) (old new : ChainOf B) (samples : List ℤ) (n : ℕ)
    (x : List Frame) (handed : ℕ) → IsDevice device → All (FitsBits (bits_of (mix_settings device).format)) samples
    → HasMade kept device old x handed → AreMixedFor device samples handed n
    → GivesExactly kept (device_filters device) new (x ++ raised_frames device samples) (handed + n)
    → HasMade kept device new (x ++ raised_frames device samples) (handed + n)
made-more kept device old new samples n x handed is fits made mixed exactly =
    let more = raised_frames device samples in
    record {
      bits = All-append (λ (frame : Frame). All (FitsBits 32) frame) x more made.bits (raised-bits device samples fits);
      channels = All-append (λ (frame : Frame). length frame ≡ channels_of (mix_settings device).layout) x more made.channels
          (raised-channels device samples);
      count = omega (arith, length-append x more, made.count, raised-count device samples handed n mixed, mixed-behind device handed n is);
      exactly = exactly;
    }

-- what was made of frames was made by the counts
pub made-far : {B : Type 0} (kept : B → Kept) (device : DeviceSeen) (chain : ChainOf B) (x : List Frame) (handed : ℕ)
    → HasMade kept device chain x handed → HasMadeFar kept device chain handed
made-far kept device chain x handed made =
    let tables = device_filters device in
    subst (λ n. IsJustSoFar kept tables chain n handed) made.count
    (record { far = chain-far kept tables chain x 0 handed made.exactly.stands; exact = made.exactly.exact })

-- what is eaten for n frames more is what the device needs by then
more-mixed : (device : DeviceSeen) (samples : List ℤ) (handed n : ℕ) → IsDevice device → AreMixedFor device samples handed n
    → mixed_for device handed + length (raised_frames device samples) ≡ mixed_for device (handed + n)
more-mixed device samples handed n is mixed =
    omega (arith, raised-count device samples handed n mixed, mixed-behind device handed n is)

-- ---- a straight device

-- it gets the mixed samples
pub straight-makes : {B : Type 0} (kept : B → Kept) (device : DeviceSeen) (chain : ChainOf B) (samples : List ℤ) (n : ℕ)
    → IsPlannedBy device chain → is_straight device ≡ true → All (FitsBits (bits_of (mix_settings device).format)) samples
    → MakesOn kept device samples n chain chain samples
straight-makes kept device chain samples n planned straight fits x handed made mixed =
    let c = channels_of (mix_settings device).layout in
    let frames = frames_of c samples in
    let all = x ++ raised_frames device samples in
    let given : ℕ → ℕ → List Frame = recs (parent_plan device) (device_filters device) all in
    let from : length x ≡ handed = made.count ∙ straight-count device handed straight in
    let count : length frames ≡ n = mixed-frames device samples handed n mixed ∙ straight-by device handed n straight in
    let more = raised_frames device samples in
    let each : All TurnsEach (plan_in chain).stages = subst (λ (plan : PlanSeen). All TurnsEach plan.stages) (sym planned.plan_is) (straight-each device straight) in
    let have : HaveChannels (channels_of (plan_in chain).source) more = subst (λ (plan : PlanSeen). HaveChannels (channels_of plan.source) more) (sym planned.plan_is) (raised-channels device samples) in
    let long : length more ≡ n = raised-count device samples handed n mixed ∙ straight-by device handed n straight in
    let passed = passed-by kept (device_filters device) chain x more handed each have made.exactly in
    let whole : length samples % c ≡ 0 = ap (λ k. k % c) mixed ∙ mul-mod_left (mixed_by device handed n) c in
    record {
      made = made-more kept device chain chain samples n x handed planned.limits fits made mixed
          (subst (λ k. GivesExactly kept (device_filters device) chain all (handed + k)) long passed);
      frames = sym (ap interleaved (ap (λ k. given k n) (sym from) ∙ ap (given (length x)) (sym count)
          ∙ straight-behind device x frames straight) ∙ interleaved-frames_of c samples whole);
    }

-- and the chain, which they pass by, is as far as if it had been fed them
pub straight-far : {B : Type 0} (kept : B → Kept) (device : DeviceSeen) (chain : ChainOf B) (samples : List ℤ) (n : ℕ)
    → IsPlannedBy device chain → is_straight device ≡ true → MakesOnFar kept device samples n chain chain
straight-far kept device chain samples n planned straight handed made mixed =
    let tables = device_filters device in
    let more = raised_frames device samples in
    let each : All TurnsEach (plan_in chain).stages = subst (λ (plan : PlanSeen). All TurnsEach plan.stages) (sym planned.plan_is) (straight-each device straight) in
    let have : HaveChannels (channels_of (plan_in chain).source) more = subst (λ (plan : PlanSeen). HaveChannels (channels_of plan.source) more) (sym planned.plan_is) (raised-channels device samples) in
    let long : length more ≡ n = raised-count device samples handed n mixed ∙ straight-by device handed n straight in
    subst (λ k. IsJustSoFar kept tables chain (mixed_for device (handed + n)) (handed + k)) long
    (subst (λ k. IsJustSoFar kept tables chain k (handed + length more)) (more-mixed device samples handed n planned.limits mixed)
    (passed-far kept tables chain more (mixed_for device handed) handed each have made))

-- they are n frames of the device
pub straight-length : {B : Type 0} (kept : B → Kept) (device : DeviceSeen) (chain : ChainOf B) (samples : List ℤ)
    (n : ℕ) → is_straight device ≡ true → CanMake kept device chain samples n
    → length samples ≡ n * channels_of (device_settings device).layout
straight-length kept device chain samples n straight can =
    can.enough ∙ ap (λ k. k * channels_of (mix_settings device).layout) (straight-by device can.handed n straight)
    ∙ ap (λ c. n * c) (straight-channels device straight)

-- ---- another one

-- a buffer of n of its frames is filled by n
fills : (device : DeviceSeen) (plan : PlanSeen) (out : List ℤ) (n : ℕ) → plan ≡ parent_plan device
    → length out ≡ n * channels_of (device_settings device).layout → filling_frames plan out ≡ n
fills device plan out n is long =
    let layout = (device_settings device).layout in
    ap (λ (p : PlanSeen). filling_frames p out) is
    ∙ ap (λ k. k / channels_of layout) long ∙ mul-div_cancel n (channels_of-above layout)

-- what the chain is fed
fed : (device : DeviceSeen) (plan : PlanSeen) (samples : List ℤ) → plan ≡ parent_plan device
    → pushed_frames plan (raised device samples) ≡ raised_frames device samples
fed device plan samples is =
    ap (λ (p : PlanSeen). pushed_frames p (raised device samples)) is ∙ raised-frames device samples

-- that is as much as its plan needs
just-enough : (device : DeviceSeen) (plan : PlanSeen) (samples : List ℤ) (handed n : ℕ) → plan ≡ parent_plan device
    → AreMixedFor device samples handed n → AreJustEnough plan (raised device samples) handed n
just-enough device plan samples handed n is mixed =
    subst (λ (p : PlanSeen). AreJustEnough p (raised device samples) handed n) (sym is)
    (ap length (raised-frames device samples) ∙ raised-count device samples handed n mixed)

-- so the chain may be handed it
pub can-give : {B : Type 0} (kept : B → Kept) (device : DeviceSeen) (chain : ChainOf B) (samples out : List ℤ) (n : ℕ)
    → IsPlannedBy device chain → length out ≡ n * channels_of (device_settings device).layout → CanMake kept device chain samples n
    → CanGive kept (device_filters device) chain (raised device samples) (filling_frames (plan_in chain) out)
can-give kept device chain samples out n planned long can = record {
  eaten = mixed_for device can.handed;
  given = can.handed;
  gives = can.made;
  enough = subst (AreJustEnough (plan_in chain) (raised device samples) can.handed)
      (sym (fills device (plan_in chain) out n planned.plan_is long))
      (just-enough device (plan_in chain) samples can.handed n planned.plan_is can.enough);
}

-- and what it gives is what the device gets
pub chain-makes : {B : Type 0} (kept : B → Kept) (device : DeviceSeen) (old new : ChainOf B)
    (samples out given : List ℤ) (n : ℕ) → IsPlannedBy device old
    → All (FitsBits (bits_of (mix_settings device).format)) samples
    → length out ≡ n * channels_of (device_settings device).layout
    → GivesOn kept (device_filters device) (raised device samples) (filling_frames (plan_in old) out) old new given
    → MakesOn kept device samples n old new given
chain-makes {B = B} kept device old new samples out given n planned fits long gives x handed made mixed =
    let tables = device_filters device in
    let plan = plan_in old in
    let pushed = pushed_frames plan (raised device samples) in
    let more = raised_frames device samples in
    let count = fills device plan out n planned.plan_is long in
    let same = fed device plan samples planned.plan_is in
    let enough = just-enough device plan samples handed n planned.plan_is mixed in
    let g = gives x handed made.exactly
    (subst (AreJustEnough plan (raised device samples) handed) (sym count) enough) in
    record {
      made = made-more kept device old new samples n x handed planned.limits fits made mixed
          (subst (λ (m : List Frame). GivesExactly kept tables new (x ++ m) (handed + n)) same
          (subst (λ k. GivesExactly kept tables new (x ++ pushed) (handed + k)) count g.exactly));
      frames = g.frames
          ∙ ap (λ k. interleaved (recs plan tables (x ++ pushed) handed k)) count
          ∙ ap (λ (m : List Frame). interleaved (recs plan tables (x ++ m) handed n)) same
          ∙ ap (λ (p : PlanSeen). interleaved (recs p tables (x ++ more) handed n)) planned.plan_is;
    }

-- by the counts it has made n frames more, which have the bits of the device
pub record MakesFar {B : Type 0} (kept : B → Kept) (device : DeviceSeen) (new : ChainOf B) (n handed : ℕ) (given : List ℤ) : Type 0 where
  pub made : HasMadeFar kept device new (handed + n)
  pub bits : All (FitsBits (bits_of (device_settings device).format)) given

pub chain-makes-far : {B : Type 0} (kept : B → Kept) (device : DeviceSeen) (old new : ChainOf B)
    (samples out given : List ℤ) (n handed : ℕ) → IsPlannedBy device old
    → length out ≡ n * channels_of (device_settings device).layout
    → GivesOnFar kept (device_filters device) (raised device samples) (filling_frames (plan_in old) out) old new given
    → HasMadeFar kept device old handed → AreMixedFor device samples handed n → MakesFar kept device new n handed given
chain-makes-far kept device old new samples out given n handed planned long gives made mixed =
    let tables = device_filters device in
    let plan = plan_in old in
    let count = fills device plan out n planned.plan_is long in
    let g = gives (mixed_for device handed) handed made
    (subst (AreJustEnough plan (raised device samples) handed) (sym count) (just-enough device plan samples handed n planned.plan_is mixed)) in
    let all = ap (λ (list : List Frame). mixed_for device handed + length list) (fed device plan samples planned.plan_is)
    ∙ more-mixed device samples handed n planned.limits mixed in
    record {
      made = subst (λ k. IsJustSoFar kept tables new (mixed_for device (handed + n)) (handed + k)) count
          (subst (λ k. IsJustSoFar kept tables new k (handed + filling_frames plan out)) all g.exactly);
      bits = subst (λ bits. All (FitsBits bits) given)
          (ap (λ (p : PlanSeen). bits_left p.stages) planned.plan_is ∙ bits-recorded tables (device_quality device) (device_settings device) (mix_settings device)) g.bits;
    }

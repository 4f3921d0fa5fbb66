-- The plans between a client and the device fit, whatever rate the client has.
use Rattle.std.proofs.Common.{◌≡◌, ◌≢◌, ◌≤◌, ◌<◌, ◌+◌, ◌*◌, ◌/◌, ◌==◌, ℕ, List, [], ◌∷◌, sym, ap, ◌∙◌, subst, arith}
use Rattle.std.specs.Prelude.{All}
use Rattle.std.proofs.Math.Nat.{mul-le-mul_right}
use Rattle.std.proofs.lemmas.Bool.{cond_both, eqb-false, eqb-true}
use Rattle.std.proofs.lemmas.List.Elements.{All-head, All-tail}
use Rattle.pcm_format.specs.Formats.{bits_of}
use Rattle.pcm_format.specs.Frames.{Frame}
use Rattle.pcm_desk.specs.Types.{Device, Filters, Rate, Settings}
use Rattle.pcm_rate.specs.Rates.{IsRatio, can, need}
use Rattle.pcm_rate.proofs.Counts.{below_div_up, can-le-len, div_grows, need-apart, need-unchanged, need_grows}
use Rattle.pcm_feeder.specs.declared.stage.Spec.{Spec}
use Rattle.pcm_feeder.specs.Limits.{AreFilters, IsRate, IsSpec}
use Rattle.pcm_plan.specs.Fits.{HaveBits, IsPlan, HaveTables}
use Rattle.pcm_plan.specs.Plans.{rate_among}
use Rattle.pcm_plan.specs.Through.{recs}
use Rattle.pcm_plan.proofs.Bits.{recs-bits}
use Rattle.pcm_plan.proofs.Fits.{play-fits, play-ratio, play-tables, record-changes, record-fits, record-level, record-ratio, record-tables}
use Rattle.pcm_desk.specs.Device.{DeviceSeen, HasRates, IsDevice, device_settings, device_filters, device_quality, play_plan_between, play_rate_between, mix_frames, mix_settings, mixed_for, parent_plan, parent_rate, record_plan_between, record_rate_between, ring_frames, seen}
use Rattle.pcm_desk.specs.Channels.{mixed_by}

-- ---- from a client that plays to the mix

-- the stages between a client and the mix fit each other
pub plan-between-fits : (device : DeviceSeen) (settings : Settings) → IsDevice device → IsRate settings.rate → IsPlan (play_plan_between device settings)
plan-between-fits device settings d s = play-fits (device_filters device) (device_quality device) settings (mix_settings device) d.filters s d.mix_rate

-- the device's filters are those that the stages ask for
pub tables-between : (device : DeviceSeen) (settings : Settings) → IsDevice device → IsRate settings.rate → HaveTables (play_plan_between device settings).stages (device_filters device)
tables-between device settings d s = play-tables (device_filters device) (device_quality device) settings (mix_settings device) d.filters s d.mix_rate

-- both rates between a client and the mix are above 0
pub ratio-between : (device : DeviceSeen) (settings : Settings) → IsDevice device → IsRate settings.rate → IsRatio (play_rate_between device settings)
ratio-between device settings d s = play-ratio (device_filters device) (device_quality device) settings (mix_settings device) s d.mix_rate

-- ---- from the device to a client that records

-- the stages between the device and a client that records fit each other
pub record-plan-between-fits : (device : DeviceSeen) (settings : Settings) → IsDevice device → IsRate settings.rate → IsPlan (record_plan_between device settings)
record-plan-between-fits device settings d s = record-fits (device_filters device) (device_quality device) settings (device_settings device) d.filters s d.rate

-- the device's filters are those that these stages ask for
pub record-tables-between : (device : DeviceSeen) (settings : Settings) → IsDevice device → IsRate settings.rate → HaveTables (record_plan_between device settings).stages (device_filters device)
record-tables-between device settings d s = record-tables (device_filters device) (device_quality device) settings (device_settings device) d.filters s d.rate

-- both rates between the device and such a client are above 0
pub record-ratio-between : (device : DeviceSeen) (settings : Settings) → IsDevice device → IsRate settings.rate → IsRatio (record_rate_between device settings)
record-ratio-between device settings d s = record-ratio (device_filters device) (device_quality device) settings (device_settings device) d.filters s d.rate

-- what such a client gets of the device's frames is within the bits of its format
pub record-bits-between : (device : DeviceSeen) (settings : Settings) → IsDevice device → IsRate settings.rate → (frames : List Frame) (from count : ℕ) → HaveBits 32 frames
    → HaveBits (bits_of settings.format) (recs (record_plan_between device settings) (device_filters device) frames from count)
record-bits-between device settings d s frames from count have =
    recs-bits (device_filters device) (device_quality device) settings (device_settings device) frames from count s have

-- ---- from the mix to the device

-- a device of these settings, whatever filters there are
pub device-is : (filters : Filters) (device : Device) → HasRates device → AreFilters filters → IsDevice (seen filters device)
device-is filters device has are = record { rate = has.rate; mix_rate = has.mix_rate; filters = are }

-- the stages between the mix and the device fit each other
pub parent-plan-fits : (device : DeviceSeen) → IsDevice device → IsPlan (parent_plan device)
parent-plan-fits device d = record-fits (device_filters device) (device_quality device) (device_settings device) (mix_settings device) d.filters d.rate d.mix_rate

-- the device's filters are those that they ask for
pub parent-tables : (device : DeviceSeen) → IsDevice device → HaveTables (parent_plan device).stages (device_filters device)
parent-tables device d = record-tables (device_filters device) (device_quality device) (device_settings device) (mix_settings device) d.filters d.rate d.mix_rate

-- both rates between them are above 0
pub parent-ratio : (device : DeviceSeen) → IsDevice device → IsRatio (parent_rate device)
parent-ratio device d = record-ratio (device_filters device) (device_quality device) (device_settings device) (mix_settings device) d.filters d.rate d.mix_rate

-- what the device gets of mixed frames is within the bits of its format
pub parent-bits : (device : DeviceSeen) → IsDevice device → (frames : List Frame) (from count : ℕ) → HaveBits 32 frames
    → HaveBits (bits_of (device_settings device).format) (recs (parent_plan device) (device_filters device) frames from count)
parent-bits device d frames from count have = recs-bits (device_filters device) (device_quality device) (device_settings device) (mix_settings device) frames from count d.rate have

-- more frames of the device need no fewer mixed ones
pub mixed-grows : (device : DeviceSeen) (handed later : ℕ) → IsDevice device → handed ≤ later → mixed_for device handed ≤ mixed_for device later
mixed-grows device handed later d h = need_grows (parent_rate device) handed later (parent-ratio device d).dst h

-- what an interrupt mixes, with what was mixed before, is what all frames given to the device by its end need
pub mixed-behind : (device : DeviceSeen) (handed n : ℕ) → IsDevice device → mixed_for device handed + mixed_by device handed n ≡ mixed_for device (handed + n)
mixed-behind device handed n d = let grows = mixed-grows device handed (handed + n) d (omega arith) in omega (arith, grows)

-- an interrupt mixes no more frames than are counted with its device
pub mix-within : (device : DeviceSeen) (handed n : ℕ) → IsDevice device → n ≤ ring_frames device → mixed_by device handed n ≤ mix_frames device
mix-within device handed n d few =
    let mix = (mix_settings device).rate in
    let rate = (device_settings device).rate in
    let ring = ring_frames device in
    cond_both (rate == mix) ring (ring * mix / rate + 33) (λ most. mixed_by device handed n ≤ most)
    (λ same. level (sym (eqb-true rate mix same))) (λ other. apart (λ same. eqb-false rate mix other (sym same)))
  where
    level : (mix_settings device).rate ≡ (device_settings device).rate → mixed_by device handed n ≤ ring_frames device
    level same =
        let is = record-level (device_filters device) (device_quality device) (device_settings device) (mix_settings device) same in
        let before = ap (λ (r : Rate). need r handed) is ∙ need-unchanged handed in
        let behind = ap (λ (r : Rate). need r (handed + n)) is ∙ need-unchanged (handed + n) in
        omega (arith, before, behind, few)

    apart : (mix_settings device).rate ≢ (device_settings device).rate → mixed_by device handed n ≤ ring_frames device * (mix_settings device).rate / (device_settings device).rate + 33
    apart differ =
        let mix = (mix_settings device).rate in
        let rate = (device_settings device).rate in
        let is = record-changes (device_filters device) (device_quality device) (device_settings device) (mix_settings device) d.filters differ in
        let dst = (parent-ratio device d).dst in
        let above : 0 < rate = subst (λ (k : ℕ). 0 < k) is.dst_is dst in
        let most = need-apart (parent_rate device) handed n dst in
        let last : n * (parent_rate device).src / (parent_rate device).dst ≡ n * mix / rate = ap (λ (k : ℕ). n * k / (parent_rate device).dst) is.src_is ∙ ap (λ (k : ℕ). n * mix / k) is.dst_is in
        let longest = div_grows (n * mix) (ring_frames device * mix) rate above (mul-le-mul_right {m = n} {n = ring_frames device} mix few) in
        let ahead = is.lookahead in
        omega (arith, most, last, longest, ahead)

-- ---- how many frames come

-- a rate is at most 48 times the other
record IsFew (rate : Rate) : Type 0 where
  src : 0 < rate.src
  dst : rate.dst ≤ 48 * rate.src

-- so is that of stages within their limits
few-among : (specs : List Spec) → All IsSpec specs → IsFew (rate_among specs)
few-among [] all = grind arith
few-among (spec ∷ specs) all =
    let first = All-head IsSpec spec specs all in
    let rest = few-among specs (All-tail IsSpec spec specs all) in
    grind arith

-- n frames allow at most 48 times as many
few-can : (rate : Rate) (n : ℕ) → IsFew rate → can rate n ≤ 48 * n
few-can rate n few =
    let least = can-le-len rate n few.src in
    let up = below_div_up (48 * n) (n * rate.dst) rate.src few.src in
    let most = mul-le-mul_right {m = rate.dst} {n = 48 * rate.src} n few.dst in
    grind arith

-- at most 48 frames of a client that records come of each frame of the device, since both rates are within their limits
pub record-few : (device : DeviceSeen) (settings : Settings) (n : ℕ) → IsDevice device → IsRate settings.rate → can (record_rate_between device settings) n ≤ 48 * n
record-few device settings n d s = few-can (record_rate_between device settings) n (few-among (record_plan_between device settings).stages (record-plan-between-fits device settings d s).specs)

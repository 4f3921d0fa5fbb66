-- Where the mix and the device can be, however many frames the device has been given.
use Rattle.std.proofs.Common.{◌≡◌, ℕ, ℤ, pos, negsuc, zero, suc, ◌+◌, ◌-◌, ◌*◌, ◌/◌, ◌^◌, ◌<◌, ◌≤◌, ◌⊎◌, inl, inr, sym, ap, ◌∙◌, subst, arith, w64, FitsSigned}
use mir.Syntax.{w128}
use Rattle.std.specs.Prelude.{◌==◌, ◌≤ℤ◌, ◌+ℤ◌, ◌-ℤ◌, ◌*ℤ◌}
use Rattle.std.proofs.lemmas.Int.{ints}
use Rattle.std.specs.Int.{int_div_euclid}
use Rattle.std.proofs.Math.Nat.{div-lt_iff_lt-mul, div-mul-le_self, le-div_iff_mul-le, lt-div-mul-add, mul-le-mul_left, mul-le-mul_right, mul-div_cancel, zero-div, zero-mul}
use Rattle.std.proofs.lemmas.Bool.{cases_eq, cases_lt, cond_both, eqb-true}
use Rattle.pcm_num.specs.Floor.{floor_div}
use Rattle.pcm_rate.specs.declared.rate.Rate.{Rate}
use Rattle.pcm_rate.specs.Rates.{need}
use Rattle.pcm_rate.proofs.Counts.{div_apart, div_grows, need-unchanged}
use Rattle.pcm_feeder.specs.Limits.{IsRate}
use Rattle.pcm_plan.proofs.Fits.{record-changes, record-level}
use Rattle.pcm_desk.specs.Device.{DeviceSeen, IsDevice, IsInLimits, device_settings, device_filters, here_at, mix_frames, mix_settings, mixed_for, parent_rate, passed_for, device_quality, ring_frames}
use Rattle.pcm_desk.specs.Here.{IsHere, held_most}

-- ---- quotients

-- the sum of two quotients is at most the quotient of the sum
div_joined : (a b d : ℕ) → 0 < d → a / d + b / d ≤ (a + b) / d
div_joined a b d above = (le-div_iff_mul-le {k = d} {x = a / d + b / d} {y = a + b} above).1 (omega (arith, div-mul-le_self a d, div-mul-le_self b d))

-- ---- how many frames have left the ring

-- how many frames of the mix last as long as `frames` of the device
abbrev lasting : DeviceSeen → ℕ → ℕ
lasting device frames = frames * (mix_settings device).rate / (device_settings device).rate

-- once the device has been given as many frames as its ring holds, those of the mix count that last as long as the rest
passed-past : (device : DeviceSeen) (handed : ℕ) → ring_frames device ≤ handed → passed_for device handed ≡ pos (lasting device (handed - ring_frames device))
passed-past device handed past = grind (arith, ints)

-- before, those that are still to leave, rounded up, are below 0
passed-before : (device : DeviceSeen) (handed : ℕ) → handed < ring_frames device → 0 < (mix_settings device).rate
    → passed_for device handed ≡ negsuc (((ring_frames device - handed) * (mix_settings device).rate - 1) / (device_settings device).rate)
passed-before device handed before above = grind (arith, ints)

-- ---- how they are divided

-- a quotient that leaves a rest from 0 on is rounded down
pub euclid-floor : (z : ℤ) (d : ℕ) → int_div_euclid z (pos d) ≡ floor_div z d
euclid-floor z d = grind arith

fits-below : (z : ℤ) (k : ℕ) → k < 2 ^ 100 → (z ≡ pos k) ⊎ (z ≡ (pos 0 -ℤ pos k)) → FitsSigned w128 z
fits-below z k few is = record { sfits = grind (arith, ints) }

-- what the device has been given past its ring fits, or what is short of it
pub fits-gap : (a b : ℕ) → a < 2 ^ 64 → b < 2 ^ 32 → FitsSigned w128 (pos a -ℤ pos b)
fits-gap a b few small = let split = cases_lt a b in record { sfits = grind (arith, ints) }

-- and so does its product with a rate
pub fits-product : (a b m : ℕ) → a < 2 ^ 64 → b < 2 ^ 32 → m ≤ 192000 → FitsSigned w128 ((pos a -ℤ pos b) *ℤ pos m)
fits-product a b m few small rate =
    elim (cases_lt a b) [
      | inl below ↦ (
          let k = b - a in
          let most : k * m ≤ k * 192000 = mul-le-mul_left k rate in
          let gap : (pos a -ℤ pos b) ≡ (pos 0 -ℤ pos k) = omega (arith, ints, below) in
          fits-below ((pos a -ℤ pos b) *ℤ pos m) (k * m) (omega (arith, most, small)) (inr (ap (λ z. z *ℤ pos m) gap ∙ down k m)))
      | inr past ↦ (
          let k = a - b in
          let most : k * m ≤ k * 192000 = mul-le-mul_left k rate in
          let gap : (pos a -ℤ pos b) ≡ pos k = omega (arith, ints, past) in
          fits-below ((pos a -ℤ pos b) *ℤ pos m) (k * m) (omega (arith, most, few)) (inl (ap (λ z. z *ℤ pos m) gap)))
    ]
  where
    down : (k m : ℕ) → ((pos 0 -ℤ pos k) *ℤ pos m) ≡ (pos 0 -ℤ pos (k * m))
    down k m = grind (arith, ints)

-- the quotient has room in 64 bits, since it is no more than was mixed
pub fits-passed : (device : DeviceSeen) (handed : ℕ) → passed_for device handed ≤ℤ pos (2 ^ 62) → ring_frames device < 2 ^ 32 → IsRate (mix_settings device).rate → IsRate (device_settings device).rate → FitsSigned w64 (passed_for device handed)
fits-passed device handed few small mix rate =
    elim (cases_lt handed (ring_frames device)) [
      | inl before ↦ (
          let above = mix.least in
          subst (FitsSigned w64) (sym (passed-before device handed before (omega (arith, above))))
          (record { sfits = (let k = ring_frames device - handed in let most = at-most k in let fewer = div_grows (k * m - 1) (k * m) d (omega (arith, slow)) (omega arith) in omega (arith, ints, most, fewer, small)) }))
      | inr past ↦ (
          let is = passed-past device handed past in
          subst (FitsSigned w64) (sym is) (record { sfits = omega (arith, ints, is, few) }))
    ]
  where
    m : ℕ
    m = (mix_settings device).rate

    d : ℕ
    d = (device_settings device).rate

    slow : 4000 ≤ d
    slow = rate.least

    -- frames last for at most 48 times as many
    at-most : (k : ℕ) → k * m / d ≤ k * 48
    at-most k =
        let fast : k * m ≤ k * 192000 = mul-le-mul_left k mix.most in
        let long : k * 48 * 4000 ≤ k * 48 * d = mul-le-mul_left (k * 48) slow in
        let below : k * m / d < k * 48 + 1 = (div-lt_iff_lt-mul {k = d} {x = k * m} {y = k * 48 + 1} (omega (arith, slow))).1 (omega (arith, fast, long, slow)) in
        omega (arith, below)

-- ---- how many are mixed

-- the mixed frames that a frame of the device needs, and all before it: those that last as long, its own, and what a filter reads ahead
record NeedsAhead (device : DeviceSeen) (count : ℕ) : Type 0 where
  ahead : ℕ
  most : ahead ≤ 32
  is : mixed_for device (suc count) ≡ lasting device count + 1 + ahead

needs-ahead : (device : DeviceSeen) (count : ℕ) → IsDevice device → NeedsAhead device count
needs-ahead device count d =
    elim (cases_eq (mix_settings device).rate (device_settings device).rate) [
      | inl same ↦ (
          let is = record-level (device_filters device) (device_quality device) (device_settings device) (mix_settings device) same in
          let above = d.rate.least in
          let lasts : lasting device count ≡ count = ap (λ (r : ℕ). count * r / (device_settings device).rate) same ∙ mul-div_cancel count (omega (arith, above)) in
          record { ahead = 0; most = omega arith; is = ap (λ (r : Rate). need r (suc count)) is ∙ need-unchanged (suc count) ∙ omega (arith, lasts) })
      | inr differ ↦ (
          let is = record-changes (device_filters device) (device_quality device) (device_settings device) (mix_settings device) d.filters differ in
          record {
            ahead = (parent_rate device).lookahead;
            most = is.lookahead;
            is = ap (λ (r : ℕ). count * r / (parent_rate device).dst + 1 + (parent_rate device).lookahead) is.src_is
                ∙ ap (λ (r : ℕ). count * (mix_settings device).rate / r + 1 + (parent_rate device).lookahead) is.dst_is;
          })
    ]

-- the frames that the device has been given are at most 48 times the mixed ones
pub handed-most : (device : DeviceSeen) (handed : ℕ) → IsDevice device → handed ≤ 48 * mixed_for device handed
handed-most device zero d = omega arith
handed-most device (suc c) d =
    let mix = (mix_settings device).rate in
    let rate = (device_settings device).rate in
    let above = d.rate.least in
    let needs = needs-ahead device c d in
    let slow : c * 4000 ≤ c * mix = mul-le-mul_left c d.mix_rate.least in
    let next = lt-div-mul-add {a = c * mix} {b = rate} (omega (arith, above)) in
    let fast : (lasting device c + 1) * rate ≤ (lasting device c + 1) * 192000 = mul-le-mul_left (lasting device c + 1) d.rate.most in
    omega (arith, needs.is, slow, next, fast)

-- the frames that a ring holds last for no more than an interrupt mixes at most
ring-lasts : (device : DeviceSeen) → IsDevice device → lasting device (ring_frames device) ≤ mix_frames device
ring-lasts device d =
    cond_both ((device_settings device).rate == (mix_settings device).rate) (ring_frames device) (lasting device (ring_frames device) + 33) (λ most. lasting device (ring_frames device) ≤ most)
    (λ same.
    let above = d.rate.least in
    let level : (mix_settings device).rate ≡ (device_settings device).rate = sym (eqb-true (device_settings device).rate (mix_settings device).rate same) in
    let lasts : lasting device (ring_frames device) ≡ ring_frames device = ap (λ (r : ℕ). ring_frames device * r / (device_settings device).rate) level ∙ mul-div_cancel (ring_frames device) (omega (arith, above)) in
    omega (arith, lasts))
    (λ other. omega arith)

-- ---- both

-- what the device has been given was mixed
pub past-is : (device : DeviceSeen) (handed : ℕ) → IsDevice device → 0 < ring_frames device → passed_for device handed ≤ℤ pos (mixed_for device handed)
past-is device handed d some =
    elim (cases_lt handed (ring_frames device)) [
      | inl before ↦ (
          let above = d.mix_rate.least in
          let is = passed-before device handed before (omega (arith, above)) in
          omega (arith, ints, is))
      | inr past ↦ (
          let rate = d.rate.least in
          let c = handed - 1 in
          let last : suc c ≡ handed = omega arith in
          let needs = needs-ahead device c d in
          let mixed : mixed_for device handed ≡ lasting device c + 1 + needs.ahead = ap (mixed_for device) (sym last) ∙ needs.is in
          let fewer = div_grows ((handed - ring_frames device) * (mix_settings device).rate) (c * (mix_settings device).rate) (device_settings device).rate (omega (arith, rate))
          (mul-le-mul_right {m = handed - ring_frames device} {n = c} (mix_settings device).rate (omega arith)) in
          let is = passed-past device handed past in
          omega (arith, ints, is, mixed, fewer))
    ]

-- where the device has been given nothing, nothing has passed
pub passed-none : (device : DeviceSeen) → IsRate (mix_settings device).rate → passed_for device 0 ≤ℤ pos 0
passed-none device mix =
    elim (cases_lt 0 (ring_frames device)) [
      | inl before ↦ (
          let above = mix.least in
          let is = passed-before device 0 before (omega (arith, above)) in
          omega (arith, ints, is))
      | inr past ↦ (
          let none : ring_frames device ≡ 0 = omega arith in
          let is = passed-past device 0 past in
          let bare : (0 - ring_frames device) * (mix_settings device).rate ≡ 0 = ap (λ (n : ℕ). (0 - n) * (mix_settings device).rate) none ∙ zero-mul (mix_settings device).rate in
          let zero : (0 - ring_frames device) * (mix_settings device).rate / (device_settings device).rate ≡ 0 = ap (λ (n : ℕ). n / (device_settings device).rate) bare ∙ zero-div (device_settings device).rate in
          omega (arith, ints, is, zero))
    ]

-- and no more is held than a ring and a filter hold
held-is : (device : DeviceSeen) (handed : ℕ) → IsInLimits device → pos (mixed_for device handed) ≤ℤ (passed_for device handed +ℤ pos held_most)
held-is device handed l =
    let d = l.device_is in
    let mix = (mix_settings device).rate in
    let rate = (device_settings device).rate in
    let ring = ring_frames device in
    let slow = d.rate.least in
    let above = d.mix_rate.least in
    let most = l.mix_most in
    let lasts = ring-lasts device d in
    elim (cases_lt handed ring) [
      | inl before ↦ (
          let is = passed-before device handed before (omega (arith, above)) in
          let k = ring - handed in
          let left = div_grows (k * mix - 1) (k * mix) rate (omega (arith, slow)) (omega arith) in
          let joined = div_joined (handed * mix) (k * mix) rate (omega (arith, slow)) in
          let whole : lasting device ring ≡ (handed * mix + k * mix) / rate = ap (λ z. z / rate) (let all : ring ≡ handed + k = omega arith in ap (λ n. n * mix) all ∙ omega arith) in
          let mixed = mixed-most device handed d in
          omega (arith, ints, is, left, joined, whole, mixed, most, lasts))
      | inr past ↦ (
          let is = passed-past device handed past in
          let k = handed - ring in
          let parted = div_apart (k * mix) (ring * mix) rate (omega (arith, slow)) in
          let whole : lasting device handed ≡ (k * mix + ring * mix) / rate = ap (λ z. z / rate) (let all : handed ≡ k + ring = omega arith in ap (λ n. n * mix) all ∙ omega arith) in
          let mixed = mixed-most device handed d in
          omega (arith, ints, is, parted, whole, mixed, most, lasts))
    ]
  where
    -- no more are mixed than last as long, and a filter's besides
    mixed-most : (device : DeviceSeen) (handed : ℕ) → IsDevice device → mixed_for device handed ≤ lasting device handed + 33
    mixed-most device zero d = omega arith
    mixed-most device (suc c) d =
        let needs = needs-ahead device c d in
        let slow = d.rate.least in
        let ahead = needs.most in
        let fewer = div_grows (c * (mix_settings device).rate) (suc c * (mix_settings device).rate) (device_settings device).rate (omega (arith, slow))
        (mul-le-mul_right {m = c} {n = suc c} (mix_settings device).rate (omega arith)) in
        omega (arith, needs.is, ahead, fewer)

-- where the mix and the device are at any moment
pub here-is : (device : DeviceSeen) (handed : ℕ) → IsInLimits device → mixed_for device handed < 2 ^ 56 → IsHere (here_at device handed)
here-is device handed l count = record {
  past = past-is device handed l.device_is (let block = l.block in let ring = l.ring in omega arith);
  held = held-is device handed l;
  count = count;
}

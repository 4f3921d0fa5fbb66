-- Samples at a gain of at most one keep their bits.
use Rattle.std.proofs.Common.{◌≤◌, ◌*◌, ◌/◌, ℕ, zero, suc, ℤ, pos, negsuc, neg_ℤ, ◌*ℤ◌, List, [], ◌∷◌, length, map, take, drop, get_or, arith, All}
use Rattle.std.specs.List.{range_with_len}
use Rattle.std.specs.Simd.Lanes.{zip2}
use Rattle.std.proofs.Math.Nat.{mul-le-mul_right}
use Rattle.std.proofs.lemmas.Int.{ints}
use Rattle.std.proofs.lemmas.List.Elements.{All-append, All-cons, All-drop, All-head, All-map, All-nil, All-tail, All-take}
use Rattle.pcm_num.specs.Floor.{floor_div}
use Rattle.pcm_num.specs.Limit.{FitsBits}
use Rattle.pcm_format.specs.declared.layout.Layout.{Layout}
use Rattle.pcm_format.specs.declared.layout.Position.{Position}
use Rattle.pcm_format.specs.declared.layout.Position.TheVariants.{M, FL, FR, FC, LFE, BL, BR, SL, SR}
use Rattle.pcm_format.specs.Frames.{Frame}
use Rattle.pcm_format.specs.Layouts.{channels_of, positions_of}
use Rattle.pcm_feeder.specs.declared.stage.Gain.{Gain}
use Rattle.pcm_feeder.specs.Layouts.{at_gain, side_gain}
use Rattle.pcm_feeder.specs.Limits.{IsGain}
use Rattle.pcm_feeder.specs.Streams.{frames_of, interleaved}
use Rattle.pcm_feeder.specs.Fades.{faded}

-- ---- one sample

below_zero : (bits m n : ℕ) → m ≤ suc n * 65536 → FitsBits bits (negsuc n) → FitsBits bits (floor_div (neg_ℤ (pos m)) 65536)
below_zero bits zero n within fits = record { low = omega (arith, ints); high = omega (arith, ints) }
below_zero bits (suc k) n within fits =
    let less : k / 65536 ≤ n = omega (arith, within) in
    let low = fits.low in
    record { low = omega (arith, ints, less, low); high = omega (arith, ints) }

-- it goes no further from zero
pub product-fits : (bits gain : ℕ) (sample : ℤ) → gain ≤ 65536 → FitsBits bits sample → FitsBits bits (floor_div (sample *ℤ pos gain) 65536)
product-fits bits gain (pos n) most fits =
    let times = mul-le-mul_right {m = gain} {n = 65536} n most in
    let less : n * gain / 65536 ≤ n = omega (arith, times) in
    let high = fits.high in
    record { low = omega (arith, ints); high = omega (arith, ints, less, high) }
product-fits bits gain (negsuc n) most fits =
    let times = mul-le-mul_right {m = gain} {n = 65536} (suc n) most in
    below_zero bits (suc n * gain) n (omega (arith, times)) fits

-- ---- frames

-- the gain of each position is at most one
side-most : (gain : Gain) (position : Position) → IsGain gain → side_gain gain position ≤ 65536
side-most gain M is = let left = is.left in let right = is.right in omega (arith, left, right)
side-most gain FL is = is.left
side-most gain FR is = is.right
side-most gain FC is = let left = is.left in let right = is.right in omega (arith, left, right)
side-most gain LFE is = let left = is.left in let right = is.right in omega (arith, left, right)
side-most gain BL is = is.left
side-most gain BR is = is.right
side-most gain SL is = is.left
side-most gain SR is = is.right

zip_fits : (bits : ℕ) (gain : Gain) (positions : List Position) (frame : Frame) → IsGain gain → All (FitsBits bits) frame
    → All (FitsBits bits) (zip2 (λ position sample. floor_div (sample *ℤ pos (side_gain gain position)) 65536) positions frame)
zip_fits bits gain [] [] is fits = All-nil (FitsBits bits)
zip_fits bits gain [] (sample ∷ frame) is fits = All-nil (FitsBits bits)
zip_fits bits gain (position ∷ positions) [] is fits = All-nil (FitsBits bits)
zip_fits bits gain (position ∷ positions) (sample ∷ frame) is fits =
    let rest : List ℤ = zip2 (λ position sample. floor_div (sample *ℤ pos (side_gain gain position)) 65536) positions frame in
    All-cons (FitsBits bits) (floor_div (sample *ℤ pos (side_gain gain position)) 65536) rest
    (product-fits bits (side_gain gain position) sample (side-most gain position is) (All-head (FitsBits bits) sample frame fits))
    (zip_fits bits gain positions frame is (All-tail (FitsBits bits) sample frame fits))

-- a frame at a gain keeps its bits
pub at_gain-fits : (bits : ℕ) (layout : Layout) (gain : Gain) (frame : Frame) → IsGain gain → All (FitsBits bits) frame → All (FitsBits bits) (at_gain layout gain frame)
at_gain-fits bits layout gain frame is fits = zip_fits bits gain (positions_of layout) frame is fits

-- ---- samples

interleaved_fits : (bits : ℕ) (list : List Frame) → All (λ (frame : Frame). All (FitsBits bits) frame) list → All (FitsBits bits) (interleaved list)
interleaved_fits bits [] fits = All-nil (FitsBits bits)
interleaved_fits bits (frame ∷ list) fits =
    let Fit : Frame → Type 0 = λ f. All (FitsBits bits) f in
    All-append (FitsBits bits) frame (interleaved list) (All-head Fit frame list fits) (interleaved_fits bits list (All-tail Fit frame list fits))

-- and so do samples
pub faded-fits : (bits : ℕ) (layout : Layout) (gain : Gain) (samples : List ℤ) → IsGain gain → All (FitsBits bits) samples → All (FitsBits bits) (faded layout gain samples)
faded-fits bits layout gain samples is fits =
    let c : ℕ = channels_of layout in
    let Fit : Frame → Type 0 = λ f. All (FitsBits bits) f in
    let part : ℕ → Frame = λ k. take c (drop (k * c) samples) in
    let all : List ℕ = range_with_len 0 (length samples / c) in
    let parts : (k : ℕ) → Fit (part k) = λ k. All-take (FitsBits bits) c (drop (k * c) samples) (All-drop (FitsBits bits) (k * c) samples fits) in
    interleaved_fits bits (map (at_gain layout gain) (frames_of c samples))
    (All-map Fit (at_gain layout gain) (frames_of c samples)
    (All-map (λ (frame : Frame). Fit (at_gain layout gain frame)) part all (λ i d below. at_gain-fits bits layout gain (part (get_or all i d)) is (parts (get_or all i d)))))

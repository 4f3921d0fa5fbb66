-- A device that gets what is mixed as it is: it is given as many frames as are mixed, and the same ones.
use Rattle.std.proofs.Common.{◌≡◌, ◌==◌, ◌<◌, ◌≤◌, ◌+◌, ◌-◌, ℕ, ℤ, pos, true, List, [], ◌∷◌, ◌++◌, length, map, take, drop, get_or, All, refl, sym, ap, ◌∙◌, arith}
use Rattle.std.specs.List.{range_with_len}
use Rattle.std.proofs.lemmas.Bool.{cond_both, eqb-true}
use Rattle.std.proofs.lemmas.Bool.Decides.{nat_tests}
use Rattle.std.proofs.lemmas.Int.{ints}
use Rattle.std.proofs.lemmas.List.{get_or-append-add, get_or-drop, get_or-map, get_or-take, length-drop, length-take}
use Rattle.std.proofs.lemmas.List.Elements.{All-same}
use Rattle.std.proofs.lemmas.List.FromFn.{fill_by_all, length-map-range_with_len}
use Rattle.pcm_num.proofs.Floors.{floor_div-mul_pow}
use Rattle.pcm_format.specs.Formats.{bits_of}
use Rattle.pcm_format.specs.Frames.{Frame}
use Rattle.pcm_format.specs.Layouts.{channels_of}
use Rattle.pcm_format.specs.Samples.{at_full}
use Rattle.pcm_format.proofs.Ranges.{map-range-shift, part-of-range}
use Rattle.pcm_desk.specs.Types.{Filters, Rate}
use Rattle.pcm_rate.specs.Rates.{need}
use Rattle.pcm_rate.proofs.Counts.{need-unchanged}
use Rattle.pcm_feeder.specs.declared.stage.Spec.{Spec}
use Rattle.pcm_feeder.specs.declared.stage.Spec.TheVariants.{Depth}
use Rattle.pcm_feeder.specs.Layouts.{unity}
use Rattle.pcm_feeder.specs.Stages.{at_bits, conv}
use Rattle.pcm_feeder.specs.Streams.{Stream, silence, stream_of}
use Rattle.pcm_plan.specs.Plans.{depth_stages}
use Rattle.pcm_plan.specs.Through.{rec, recs, through}
use Rattle.pcm_plan.specs.Fits.{TurnsEach}
use Rattle.pcm_plan.proofs.Fits.{each-depth, record-level}
use Rattle.pcm_desk.specs.Device.{DeviceSeen, device_settings, device_filters, full_frame, is_straight, mix_settings, mixed_for, parent_plan, device_quality}
use Rattle.pcm_desk.specs.Channels.{mixed_by}

-- ---- what is equal

-- as many channels are mixed as the device has
pub straight-channels : (device : DeviceSeen) → is_straight device ≡ true
    → channels_of (mix_settings device).layout ≡ channels_of (device_settings device).layout
straight-channels device straight = grind (arith, nat_tests)

-- with as many bits
pub straight-bits : (device : DeviceSeen) → is_straight device ≡ true
    → bits_of (mix_settings device).format ≡ bits_of (device_settings device).format
straight-bits device straight = grind (arith, nat_tests)

-- at the same rate
straight_rate : (device : DeviceSeen) → is_straight device ≡ true → (mix_settings device).rate ≡ (device_settings device).rate
straight_rate device straight = grind (arith, nat_tests)

-- ---- how many frames

-- as many frames are mixed as the device is given
pub straight-count : (device : DeviceSeen) (handed : ℕ) → is_straight device ≡ true → mixed_for device handed ≡ handed
straight-count device handed straight =
    ap (λ (rate : Rate). need rate handed) (record-level (device_filters device) (device_quality device) (device_settings device) (mix_settings device) (straight_rate device straight))
    ∙ need-unchanged handed

-- so an interrupt mixes as many as it gives to the device
pub straight-by : (device : DeviceSeen) (handed n : ℕ) → is_straight device ≡ true
    → mixed_by device handed n ≡ n
straight-by device handed n straight =
    let before = straight-count device handed straight in
    let behind = straight-count device (handed + n) straight in
    omega (arith, before, behind)

-- ---- which frames

-- the plan has at most a stage to fewer bits
straight-stages : (device : DeviceSeen) → is_straight device ≡ true
    → (parent_plan device).stages
    ≡ depth_stages (bits_of (device_settings device).format) (channels_of (device_settings device).layout)
straight-stages device straight = grind (arith, nat_tests)

-- and that turns each frame by itself
pub straight-each : (device : DeviceSeen) → is_straight device ≡ true → All TurnsEach (parent_plan device).stages
straight-each device straight =
    let bits = bits_of (device_settings device).format in
    let channels = channels_of (device_settings device).layout in
    All-same TurnsEach (parent_plan device).stages (depth_stages bits channels) (straight-stages device straight)
    (each-depth TurnsEach bits channels (record { unrated = refl; nothing = refl }))

-- samples of `bits` bits, brought to 32 and back
there-and-back : (bits : ℕ) (frame : Frame) → at_bits bits (map (at_full bits) frame) ≡ frame
there-and-back bits [] = refl
there-and-back bits (sample ∷ frame) = let first = floor_div-mul_pow sample (32 - bits) in let rest = there-and-back bits frame in cc

-- samples of 32 bits, brought to 32
times-one : (z : ℤ) → at_full 32 z ≡ z
times-one z = grind (arith, ints)

full-same : (frame : Frame) → map (at_full 32) frame ≡ frame
full-same [] = refl
full-same (sample ∷ frame) = let first = times-one sample in let rest = full-same frame in cc

-- a frame through that stage, if there is one, is the frame before it was brought to 32 bits
depth-back : (tables : Filters) (bits channels : ℕ) (x : Stream) (k : ℕ) (frame : Frame)
    → x (pos k) ≡ map (at_full bits) frame
    → through tables unity (depth_stages bits channels) x (pos k) ≡ frame
unfolding conv
depth-back tables bits channels x k frame here =
    cond_both (bits == 32) [] (Depth bits channels ∷ []) (λ specs. through tables unity specs x (pos k) ≡ frame)
    (λ whole. here ∙ ap (λ (n : ℕ). map (at_full n) frame) (eqb-true bits 32 whole) ∙ full-same frame)
    (λ fewer. ap (at_bits bits) here ∙ there-and-back bits frame)

-- where a mixed frame gets to the plan at 32 bits, the device is given it as it was mixed
straight-at : (device : DeviceSeen) (x : List Frame) (k : ℕ) (frame : Frame) → is_straight device ≡ true
    → stream_of (channels_of (mix_settings device).layout) x (pos k) ≡ full_frame device frame
    → rec (parent_plan device) (device_filters device) x k ≡ frame
straight-at device x k frame straight here =
    let tables = device_filters device in
    let to = device_settings device in
    let sound = stream_of (channels_of (mix_settings device).layout) x in
    ap (λ (specs : List Spec). through tables unity specs sound (pos k)) (straight-stages device straight)
    ∙ depth-back tables (bits_of to.format) (channels_of to.layout) sound k frame
    (here ∙ ap (λ (bits : ℕ). map (at_full bits) frame) (straight-bits device straight))

-- after any others, the device is given mixed frames as they were mixed
pub straight-behind : (device : DeviceSeen) (x frames : List Frame) → is_straight device ≡ true
    → recs (parent_plan device) (device_filters device) (x ++ map (full_frame device) frames) (length x) (length frames)
    ≡ frames
straight-behind device x frames straight =
    let raised = map (full_frame device) frames in
    let given : ℕ → Frame = rec (parent_plan device) (device_filters device) (x ++ raised) in
    let s = silence (channels_of (mix_settings device).layout) in
    let none : length x + 0 ≡ length x = omega arith in
    sym (fill_by_all (λ i. given (length x + i)) frames (length frames) [] refl
    (λ i below. sym (straight-at device (x ++ raised) (length x + i) (get_or frames i []) straight
    (get_or-append-add x raised i s ∙ get_or-map (full_frame device) frames i [] s below)))
    ∙ map-range-shift given (length x) 0 (length frames)
    ∙ ap (λ start. map given (range_with_len start (length frames))) none)

-- the device is given a mixed frame as it was mixed
pub straight-rec : (device : DeviceSeen) (frames : List Frame) (k : ℕ) (other : Frame)
    → is_straight device ≡ true → k < length frames
    → rec (parent_plan device) (device_filters device) (map (full_frame device) frames) k ≡ get_or frames k other
straight-rec device frames k other straight below =
    let s = silence (channels_of (mix_settings device).layout) in
    straight-at device (map (full_frame device) frames) k (get_or frames k other) straight
    (get_or-map (full_frame device) frames k other s below)

-- and so are several
pub straight-recs : (device : DeviceSeen) (frames : List Frame) (from n : ℕ)
    → is_straight device ≡ true → from + n ≤ length frames
    → recs (parent_plan device) (device_filters device) (map (full_frame device) frames) from n
    ≡ take n (drop from frames)
straight-recs device frames from n straight within =
    let none : from + 0 ≡ from = omega arith in
    let given : ℕ → Frame = rec (parent_plan device) (device_filters device) (map (full_frame device) frames) in
    let part = take n (drop from frames) in
    let count : length part ≡ n = omega (arith, within, length-take n (drop from frames), length-drop from frames) in
    sym (fill_by_all (λ i. given (from + i)) part n [] count
    (λ i below. get_or-take n (drop from frames) i [] below ∙ get_or-drop from frames i []
    ∙ sym (straight-rec device frames (from + i) [] straight (omega (arith, below, within))))
    ∙ map-range-shift given from 0 n ∙ ap (λ start. map given (range_with_len start n)) none)

-- where each frame is mixed from its place
pub straight-mixed : (device : DeviceSeen) (mix : ℕ → Frame) (count from n : ℕ)
    → is_straight device ≡ true → from + n ≤ count
    → recs (parent_plan device) (device_filters device)
    (map (full_frame device) (map mix (range_with_len 0 count))) from n
    ≡ map mix (range_with_len from n)
straight-mixed device mix count from n straight within =
    let none : from + 0 ≡ from = omega arith in
    let mixed = map mix (range_with_len 0 count) in
    let all : from + n ≤ length mixed = omega (arith, within, length-map-range_with_len mix 0 count) in
    straight-recs device mixed from n straight all
    ∙ part-of-range mix from n count within
    ∙ map-range-shift mix from 0 n ∙ ap (λ start. map mix (range_with_len start n)) none

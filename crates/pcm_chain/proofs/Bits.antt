-- The bits of the samples that come out of stages.
use Rattle.std.proofs.Common.{◌≡◌, ◌≤◌, ◌<◌, ◌*◌, ◌/◌, ◌==◌, ℕ, ℤ, List, [], ◌∷◌, ◌++◌, length, map, take, drop, get_or, Option, None, Some, All, refl, sym, ap, ◌∙◌, arith}
use Rattle.std.specs.List.{range_with_len}
use Rattle.std.proofs.lemmas.Bool.{cond_both, eqb-true}
use Rattle.std.proofs.lemmas.List.{append-nil, drop_at, length-append, take_at}
use Rattle.std.proofs.lemmas.List.Elements.{All-nil, All-cons, All-head, All-tail, All-append, All-drop, All-map, All-same, All-take}
use Rattle.pcm_num.specs.Limit.{FitsBits}
use Rattle.pcm_num.proofs.Limits.{FitsBits-floor_div}
use Rattle.pcm_format.specs.declared.settings.Settings.{Settings}
use Rattle.pcm_format.specs.Formats.{bits_of}
use Rattle.pcm_format.specs.Frames.{Frame}
use Rattle.pcm_format.specs.Layouts.{channels_of}
use Rattle.pcm_format.specs.Samples.{at_depth}
use Rattle.pcm_feeder.specs.declared.stage.Gain.{Gain}
use Rattle.pcm_feeder.specs.declared.stage.Spec.{Spec}
use Rattle.pcm_feeder.specs.declared.stage.Spec.TheVariants.{Matrix, Hold, Linear, Poly, Volume, Depth, Eq}
use Rattle.pcm_feeder.specs.Filters.{Filters}
use Rattle.pcm_feeder.specs.Kept.{Kept, IsFitted}
use Rattle.pcm_feeder.specs.Limits.{IsSpec}
use Rattle.pcm_feeder.specs.Stages.{at_bits}
use Rattle.pcm_feeder.specs.Streams.{frames_of, interleaved, written}
use Rattle.pcm_feeder.specs.Turns.{fed, turn_of}
use Rattle.pcm_feeder.proofs.Turns.{fed-fitted, turn-fitted}
use Rattle.pcm_plan.specs.Fits.{HaveBits}
use Rattle.pcm_plan.specs.Plans.{converter_of, converting, depth_stages, equaliser_stages, filter_for, filter_or_line, plan_play, plan_record}
use Rattle.pcm_plan.proofs.Fits.{each-converting}
use Rattle.pcm_chain.specs.Bits.{bits_after, bits_left}

-- frames of `bits` bits are samples of as many
pub interleaved-bits : (bits : ℕ) (list : List Frame) → HaveBits bits list → All (FitsBits bits) (interleaved list)
interleaved-bits bits [] have = All-nil (FitsBits bits)
interleaved-bits bits (frame ∷ list) have =
    let P : Frame → Type 0 = λ (f : Frame). All (FitsBits bits) f in
    All-append (FitsBits bits) frame (interleaved list) (All-head P frame list have) (interleaved-bits bits list (All-tail P frame list have))

-- and the other way round
pub frames_of-bits : (bits c : ℕ) (samples : List ℤ) → All (FitsBits bits) samples → HaveBits bits (frames_of c samples)
frames_of-bits bits c samples have =
    All-map (λ (frame : Frame). All (FitsBits bits) frame) (λ k. take c (drop (k * c) samples)) (range_with_len 0 (length samples / c))
    (λ i d below. All-take (FitsBits bits) c (drop (get_or (range_with_len 0 (length samples / c)) i d * c) samples) (All-drop (FitsBits bits) (get_or (range_with_len 0 (length samples / c)) i d * c) samples have))

-- frames are of as many bits as their samples
interleaved-have : (bits : ℕ) (list : List Frame) → All (FitsBits bits) (interleaved list) → HaveBits bits list
interleaved-have bits [] have = All-nil (λ (frame : Frame). All (FitsBits bits) frame)
interleaved-have bits (frame ∷ list) have =
    let rest = interleaved list in
    All-cons (λ (f : Frame). All (FitsBits bits) f) frame list
    (All-same (FitsBits bits) frame (take (length frame) (frame ++ rest)) (sym (take_at frame rest (length frame) refl)) (All-take (FitsBits bits) (length frame) (frame ++ rest) have))
    (interleaved-have bits list
    (All-same (FitsBits bits) rest (drop (length frame) (frame ++ rest)) (sym (drop_at frame rest (length frame) refl)) (All-drop (FitsBits bits) (length frame) (frame ++ rest) have)))

-- frames at the front of samples
written-have : (bits : ℕ) (list : List Frame) (old new : List ℤ) → new ≡ written list old → All (FitsBits bits) new → HaveBits bits list
written-have bits list old new is have =
    let samples = interleaved list in
    let rest = drop (length samples) old in
    interleaved-have bits list
    (All-same (FitsBits bits) samples (take (length samples) new) (sym (ap (take (length samples)) is ∙ take_at samples rest (length samples) refl)) (All-take (FitsBits bits) (length samples) new have))

-- frames at fewer bits
at_bits-have : (bits : ℕ) (list : List Frame) → 1 ≤ bits → bits ≤ 32 → HaveBits 32 list → HaveBits bits (map (at_bits bits) list)
at_bits-have bits list least most have =
    All-map (λ (frame : Frame). All (FitsBits bits) frame) (at_bits bits) list
    (λ i d below.
    let frame = get_or list i d in
    All-map (FitsBits bits) (at_depth bits) frame (λ k e within. FitsBits-floor_div bits (get_or frame k e) least most (have i d below k e within)))

-- what a stage gives for samples of 32 bits, where it was put on such samples
pub fed-bits : (spec : Spec) (kept : Kept) (tables : Filters) (gain : Gain) (samples : List ℤ) (want : ℕ) (old new : List ℤ) → IsSpec spec → IsFitted spec kept
    → All (FitsBits 32) samples → All (FitsBits 32) new → new ≡ written (fed kept tables gain samples want).frames old → HaveBits (bits_after spec) (fed kept tables gain samples want).frames
fed-bits (Depth bits channels) kept tables gain samples want old new is fits have have_new put =
    let input = frames_of channels samples in
    let given = (turn_of (Depth bits channels) kept tables gain input want).given in
    let same = fed-fitted (Depth bits channels) kept tables gain samples want fits.fitted ∙ turn-fitted (Depth bits channels) kept tables gain input want fits.fitted in
    rw same (at_bits-have bits (take given input) is.least is.most (All-take (λ (frame : Frame). All (FitsBits 32) frame) given input (frames_of-bits 32 channels samples have)))
fed-bits (Matrix from to) kept tables gain samples want old new is fits have have_new put = written-have 32 (fed kept tables gain samples want).frames old new put have_new
fed-bits (Hold src dst channels) kept tables gain samples want old new is fits have have_new put = written-have 32 (fed kept tables gain samples want).frames old new put have_new
fed-bits (Linear src dst channels) kept tables gain samples want old new is fits have have_new put = written-have 32 (fed kept tables gain samples want).frames old new put have_new
fed-bits (Poly src dst channels table taps) kept tables gain samples want old new is fits have have_new put = written-have 32 (fed kept tables gain samples want).frames old new put have_new
fed-bits (Volume layout) kept tables gain samples want old new is fits have have_new put = written-have 32 (fed kept tables gain samples want).frames old new put have_new
fed-bits (Eq channels sections) kept tables gain samples want old new is fits have have_new put = written-have 32 (fed kept tables gain samples want).frames old new put have_new

-- ---- plans

-- the last ones of stages decide
bits-behind : (specs more : List Spec) → 0 < length more → bits_left (specs ++ more) ≡ bits_left more
bits-behind [] more some = refl
bits-behind (spec ∷ []) [] some = absurd (omega arith)
bits-behind (spec ∷ []) (next ∷ more) some = refl
bits-behind (spec ∷ next ∷ specs) more some = bits-behind (next ∷ specs) more some

-- a plan of a client that plays leaves the bits of the device
pub bits-played : (tables : Filters) (quality : ℕ) (client device : Settings) → bits_left (plan_play tables quality client device).stages ≡ bits_of device.format
bits-played tables quality client device =
    let channels = channels_of device.layout in
    let last = Volume device.layout ∷ depth_stages (bits_of device.format) channels in
    let equaliser = equaliser_stages tables channels in
    bits-behind (converting tables quality client device) (equaliser ++ last) (omega (arith, length-append equaliser last))
    ∙ bits-behind equaliser last (omega arith)
    ∙ cond_both (bits_of device.format == 32) [] (Depth (bits_of device.format) channels ∷ []) (λ specs. bits_left (Volume device.layout ∷ specs) ≡ bits_of device.format)
    (λ whole. sym (eqb-true (bits_of device.format) 32 whole))
    (λ fewer. refl)

-- ---- plans to a client that records

-- stages that all leave 32 bits leave 32
wide-left : (specs : List Spec) → All (λ spec. bits_after spec ≡ 32) specs → bits_left specs ≡ 32
wide-left [] wide = refl
wide-left (spec ∷ []) wide = All-head (λ s. bits_after s ≡ 32) spec [] wide
wide-left (spec ∷ next ∷ specs) wide = wide-left (next ∷ specs) (All-tail (λ s. bits_after s ≡ 32) spec (next ∷ specs) wide)

-- and so does a change of rate
converter-wide : (tables : Filters) (quality src dst channels : ℕ) → bits_after (converter_of tables quality src dst channels) ≡ 32
converter-wide tables quality src dst channels =
    let Wide : Spec → Type 0 = λ spec. bits_after spec ≡ 32 in
    cond_both (quality == 0) (Hold src dst channels) _ Wide (λ hold. refl)
    (λ other. cond_both (quality == 1) (Linear src dst channels) _ Wide (λ line. refl) (λ more. filter-wide (filter_for tables src dst)))
  where
    filter-wide : (place : Option ℕ) → bits_after (filter_or_line tables src dst channels place) ≡ 32
    filter-wide None = refl
    filter-wide (Some place) = refl

-- a plan of a client that records leaves the client's bits
pub bits-recorded : (tables : Filters) (quality : ℕ) (client device : Settings) → bits_left (plan_record tables quality client device).stages ≡ bits_of client.format
bits-recorded tables quality client device =
    let bits = bits_of client.format in
    let stages = converting tables quality device client in
    let wide = each-converting (λ spec. bits_after spec ≡ 32) tables quality device client refl
    (λ layout other. converter-wide tables quality device.rate client.rate (channels_of layout)) in
    cond_both (bits == 32) [] (Depth bits (channels_of client.layout) ∷ []) (λ last. bits_left (stages ++ last) ≡ bits)
    (λ whole. ap bits_left (append-nil stages) ∙ wide-left stages wide ∙ sym (eqb-true bits 32 whole))
    (λ fewer. bits-behind stages (Depth bits (channels_of client.layout) ∷ []) (omega arith))

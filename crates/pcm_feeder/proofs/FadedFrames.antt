-- Samples at a gain, frame by frame.
use Rattle.std.proofs.Common.{◌≡◌, ◌<◌, ◌+◌, ◌*◌, ◌%◌, ℕ, ℤ, pos, ◌*ℤ◌, List, [], length, map, get_or, sym, ap, ◌∙◌, arith}
use Rattle.std.specs.List.{range_with_len, flat_map}
use Rattle.std.proofs.Math.Nat.{div-add-mod'}
use Rattle.std.proofs.lemmas.Simd.{length-zip2, map-map}
use Rattle.std.proofs.lemmas.List.{length-map}
use Rattle.std.proofs.lemmas.List.Elements.{All-map, All-nil}
use Rattle.std.proofs.lemmas.List.Folds.{flat_map-map}
use Rattle.std.proofs.lemmas.List.FromFn.{get_or-range_with_len, length-range_with_len}
use Rattle.pcm_format.specs.declared.layout.Layout.{Layout}
use Rattle.pcm_format.specs.Frames.{Frame}
use Rattle.pcm_format.specs.Layouts.{channels_of, positions_of}
use Rattle.pcm_format.proofs.Streams.{channels_of-above, length-positions}
use Rattle.pcm_num.specs.Floor.{floor_div}
use Rattle.pcm_feeder.specs.declared.stage.Gain.{Gain}
use Rattle.pcm_feeder.specs.Layouts.{at_gain, side_gain}
use Rattle.pcm_feeder.specs.Streams.{HaveChannels, frames_of, interleaved}
use Rattle.pcm_feeder.proofs.Frames.{frames_of-channels, frames_of-interleaved, length-frames_of, length-interleaved}
use Rattle.pcm_feeder.specs.Fades.{faded}

-- a frame at a gain has as many samples as before
pub length-at_gain : (layout : Layout) (gain : Gain) (frame : Frame) → length frame ≡ channels_of layout → length (at_gain layout gain frame) ≡ channels_of layout
length-at_gain layout gain frame has =
    let positions = positions_of layout in
    length-zip2 (λ position sample. floor_div (sample *ℤ pos (side_gain gain position)) 65536) positions frame (omega (arith, has, length-positions layout)) ∙ length-positions layout

-- and so has each frame of a list
pub at_gain-channels : (layout : Layout) (gain : Gain) (list : List Frame) → HaveChannels (channels_of layout) list → HaveChannels (channels_of layout) (map (at_gain layout gain) list)
at_gain-channels layout gain list have =
    All-map (λ (frame : Frame). length frame ≡ channels_of layout) (at_gain layout gain) list (λ k d below. length-at_gain layout gain (get_or list k d) (have k d below))

-- samples at a gain, cut into frames, are the frames at it
pub frames_of-faded : (layout : Layout) (gain : Gain) (samples : List ℤ)
    → frames_of (channels_of layout) (faded layout gain samples) ≡ map (at_gain layout gain) (frames_of (channels_of layout) samples)
frames_of-faded layout gain samples =
    let c : ℕ = channels_of layout in
    frames_of-interleaved c (map (at_gain layout gain) (frames_of c samples)) (channels_of-above layout) (at_gain-channels layout gain (frames_of c samples) (frames_of-channels c samples))

-- whole frames at a gain have as many samples as before
pub length-faded : (layout : Layout) (gain : Gain) (samples : List ℤ) → length samples % channels_of layout ≡ 0 → length (faded layout gain samples) ≡ length samples
length-faded layout gain samples even =
    let c : ℕ = channels_of layout in
    let list : List Frame = frames_of c samples in
    length-interleaved c (map (at_gain layout gain) list) (at_gain-channels layout gain list (frames_of-channels c samples))
    ∙ ap (λ (n : ℕ). n * c) (length-map list (at_gain layout gain) ∙ length-frames_of c samples)
    ∙ omega (arith, even, div-add-mod' (length samples) c)

-- joined frames at a gain are the frames at it, joined
pub faded-interleaved : (layout : Layout) (gain : Gain) (list : List Frame) → HaveChannels (channels_of layout) list → faded layout gain (interleaved list) ≡ interleaved (map (at_gain layout gain) list)
faded-interleaved layout gain list have =
    ap (λ (frames : List Frame). interleaved (map (at_gain layout gain) frames)) (frames_of-interleaved (channels_of layout) list (channels_of-above layout) have)

-- so are frames that are given by their places
pub faded-joined : (layout : Layout) (gain : Gain) (frame : ℕ → Frame) (a n : ℕ) → ((k : ℕ) → k < n → length (frame (a + k)) ≡ channels_of layout)
    → faded layout gain (flat_map frame (range_with_len a n)) ≡ flat_map (λ k. at_gain layout gain (frame k)) (range_with_len a n)
faded-joined layout gain frame a n have =
    let places : List ℕ = range_with_len a n in
    let each : HaveChannels (channels_of layout) (map frame places) =
    All-map (λ (f : Frame). length f ≡ channels_of layout) frame places
    (λ k d below.
    let here : k < n = omega (arith, below, length-range_with_len a n) in
    ap (λ (place : ℕ). length (frame place)) (get_or-range_with_len a n k d here) ∙ have k here) in
    ap (faded layout gain) (sym (flat_map-map (λ (f : Frame). f) frame places))
    ∙ faded-interleaved layout gain (map frame places) each
    ∙ ap interleaved (map-map (at_gain layout gain) frame places)
    ∙ flat_map-map (λ (f : Frame). f) (λ k. at_gain layout gain (frame k)) places

-- nothing stays nothing
pub faded-nothing : (layout : Layout) (gain : Gain) → faded layout gain [] ≡ []
faded-nothing layout gain = faded-interleaved layout gain [] (All-nil (λ (frame : Frame). length frame ≡ channels_of layout))

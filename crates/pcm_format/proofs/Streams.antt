-- Samples and frames that stand one after another in bytes: how many, which, and in a part or with more bytes after them.
use Rattle.std.proofs.Common.{◌≡◌, ℕ, ◌+◌, ◌*◌, ◌-◌, ◌/◌, ◌<◌, ◌≤◌, List, ◌++◌, length, map, take, drop, get_or, arith, ap, refl, sym, ◌∙◌}
use Rattle.std.proofs.Math.Nat.{mul-le-mul_right, mul-div_cancel, mul-pos, mul_assoc}
use Rattle.std.specs.List.{range_with_len, flat_map}
use Rattle.std.proofs.lemmas.List.{drop-append-le, take-append-le, length-drop, length-take, drop-drop, drop-take, take-take}
use Rattle.std.proofs.lemmas.List.FromFn.{length-map-range_with_len, get_or-map-range_with_len}
use Rattle.pcm_format.specs.declared.format.Format.{Format}
use Rattle.pcm_format.specs.declared.format.Format.TheVariants.{U8}
use Rattle.pcm_format.specs.declared.layout.Layout.{Layout}
use Rattle.pcm_format.specs.declared.layout.Layout.TheVariants.{One}
use Rattle.pcm_format.specs.declared.settings.Settings.{Settings}
use Rattle.pcm_format.specs.Formats.{bytes_of}
use Rattle.pcm_format.specs.Layouts.{channels_of, positions_of}
use Rattle.pcm_format.specs.Samples.{loaded, sample_at, samples}
use Rattle.pcm_format.specs.Frames.{Frame, frame_bytes, whole_frames, frame_at, frames}
use Rattle.pcm_format.proofs.Ranges.{map-range-same, map-range-shift, flat_map-range-shift, rows-joined}

-- ---- samples

-- a sample has bytes
pub bytes_of-above : (format : Format) → 0 < bytes_of format
bytes_of-above U8 = omega arith
bytes_of-above _ = omega arith

-- and at most four
bytes_of-most : (format : Format) → bytes_of format ≤ 4
bytes_of-most U8 = omega arith
bytes_of-most _ = omega arith

-- a layout has channels
pub channels_of-above : (layout : Layout) → 0 < channels_of layout
channels_of-above One = omega arith
channels_of-above _ = omega arith

-- and at most eight
pub channels_of-most : (layout : Layout) → channels_of layout ≤ 8
channels_of-most One = omega arith
channels_of-most _ = omega arith

-- a layout has a position for each of its channels
pub length-positions : (layout : Layout) → length (positions_of layout) ≡ channels_of layout
length-positions One = refl
length-positions _ = refl

-- bytes hold as many samples as they have whole parts of that size
pub length-samples : (format : Format) (bytes : List ℕ) → length (samples format bytes) ≡ length bytes / bytes_of format
length-samples format bytes = length-map-range_with_len (sample_at format bytes) 0 (length bytes / bytes_of format)

-- bytes that follow change no whole sample
pub sample_at-append : (format : Format) (bytes more : List ℕ) (i : ℕ) → (i + 1) * bytes_of format ≤ length bytes → sample_at format (bytes ++ more) i ≡ sample_at format bytes i
sample_at-append format bytes more i within =
    let w = bytes_of format in
    let before : i * w ≤ length bytes = omega arith in
    let here : w ≤ length (drop (i * w) bytes) = omega (arith, length-drop (i * w) bytes) in
    ap (loaded format) (ap (take w) (drop-append-le (i * w) bytes more before) ∙ take-append-le w (drop (i * w) bytes) more here)

-- nor does a cut after it
pub sample_at-take : (format : Format) (n : ℕ) (bytes : List ℕ) (i : ℕ) → (i + 1) * bytes_of format ≤ n → sample_at format (take n bytes) i ≡ sample_at format bytes i
sample_at-take format n bytes i within =
    let w = bytes_of format in
    let rest = n - i * w in
    let split : n ≡ i * w + rest = omega arith in
    let here : w ≤ rest = omega arith in
    ap (loaded format) (ap (λ m. take w (drop (i * w) (take m bytes))) split
    ∙ ap (take w) (drop-take (i * w) rest bytes) ∙ take-take w rest (drop (i * w) bytes) here)

-- a sample of bytes past the first k samples
pub sample_at-drop : (format : Format) (bytes : List ℕ) (k i : ℕ) → sample_at format (drop (k * bytes_of format) bytes) i ≡ sample_at format bytes (k + i)
sample_at-drop format bytes k i =
    let w = bytes_of format in
    let here : k * w + i * w ≡ (k + i) * w = omega arith in
    ap (λ rest. loaded format (take w rest)) (drop-drop (i * w) (k * w) bytes ∙ ap (λ n. drop n bytes) here)

-- ---- frames

-- a frame has one sample per channel
pub length-frame_at : (settings : Settings) (bytes : List ℕ) (k : ℕ) → length (frame_at settings bytes k) ≡ channels_of settings.layout
length-frame_at settings bytes k = length-map-range_with_len (λ channel. sample_at settings.format bytes (k * channels_of settings.layout + channel)) 0 (channels_of settings.layout)

-- a sample inside a frame ends no later than the frame
sample-within : (k c i w n : ℕ) → i < c → (k + 1) * (c * w) ≤ n → (k * c + i + 1) * w ≤ n
sample-within k c i w n below within =
    let up : k * c + i + 1 ≤ (k + 1) * c = omega arith in
    omega (arith, mul-le-mul_right w up, mul_assoc (k + 1) c w)

-- bytes that follow change no whole frame
pub frame_at-append : (settings : Settings) (bytes more : List ℕ) (k : ℕ) → (k + 1) * frame_bytes settings ≤ length bytes → frame_at settings (bytes ++ more) k ≡ frame_at settings bytes k
frame_at-append settings bytes more k within =
    let c = channels_of settings.layout in
    map-range-same (λ i. sample_at settings.format (bytes ++ more) (k * c + i)) (λ i. sample_at settings.format bytes (k * c + i)) c
    (λ i below. sample_at-append settings.format bytes more (k * c + i) (sample-within k c i (bytes_of settings.format) (length bytes) below within))

-- the samples of m frames, from frame k on, are these frames joined
pub samples-part : (settings : Settings) (bytes : List ℕ) (k m : ℕ) → (k + m) * frame_bytes settings ≤ length bytes
    → samples settings.format (take (m * frame_bytes settings) (drop (k * frame_bytes settings) bytes)) ≡ flat_map (λ j. frame_at settings bytes (k + j)) (range_with_len 0 m)
samples-part settings bytes k m within =
    let f = settings.format in
    let w = bytes_of f in
    let c = channels_of settings.layout in
    let part = take (m * (c * w)) (drop (k * (c * w)) bytes) in
    let lone : k * (c * w) ≡ k * c * w = sym (mul_assoc k c w) in
    let long : m * (c * w) ≡ m * c * w = sym (mul_assoc m c w) in
    let has : length part ≡ m * c * w = omega (arith, length-take (m * (c * w)) (drop (k * (c * w)) bytes), length-drop (k * (c * w)) bytes) in
    let start : k + 0 ≡ k = omega arith in
    let count : length part / w ≡ m * c = ap (λ n. n / w) has ∙ mul-div_cancel (m * c) (bytes_of-above f) in
    ap (λ n. map (sample_at f part) (range_with_len 0 n)) count
    ∙ map-range-same (sample_at f part) (λ i. sample_at f bytes (k * c + i)) (m * c)
    (λ i below. let up : i + 1 ≤ m * c = omega arith in
    sample_at-take f (m * (c * w)) (drop (k * (c * w)) bytes) i (omega (arith, mul-le-mul_right w up))
    ∙ ap (λ n. sample_at f (drop n bytes) i) lone ∙ sample_at-drop f bytes (k * c) i)
    ∙ map-range-shift (sample_at f bytes) (k * c) 0 (m * c)
    ∙ ap (λ s. map (sample_at f bytes) (range_with_len s (m * c))) (omega arith)
    ∙ sym (flat_map-range-shift (frame_at settings bytes) k 0 m ∙ ap (λ s. flat_map (frame_at settings bytes) (range_with_len s m)) start ∙ rows-joined (sample_at f bytes) c k m)

-- bytes hold as many frames as they have whole parts of that size
pub length-frames : (settings : Settings) (bytes : List ℕ) → length (frames settings bytes) ≡ whole_frames settings (length bytes)
length-frames settings bytes = length-map-range_with_len (frame_at settings bytes) 0 (whole_frames settings (length bytes))

-- frame k of them
pub get_or-frames : (settings : Settings) (bytes : List ℕ) (k : ℕ) (d : Frame) → k < whole_frames settings (length bytes) → get_or (frames settings bytes) k d ≡ frame_at settings bytes k
get_or-frames settings bytes k d below = get_or-map-range_with_len (frame_at settings bytes) 0 (whole_frames settings (length bytes)) k k d below (omega arith)

-- a frame has bytes
pub frame_bytes-above : (settings : Settings) → 0 < frame_bytes settings
frame_bytes-above settings = mul-pos (channels_of-above settings.layout) (bytes_of-above settings.format)

-- and at most eight times four
pub frame_bytes-most : (settings : Settings) → frame_bytes settings ≤ 32
frame_bytes-most settings =
    let channels = mul-le-mul_right (bytes_of settings.format) (channels_of-most settings.layout) in
    let bytes = bytes_of-most settings.format in
    omega arith

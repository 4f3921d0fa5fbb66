-- The frames of a part of a body, and the bytes of a part of its frames.
use Rattle.std.proofs.Common.{◌≡◌, ◌<◌, ◌≤◌, ◌+◌, ◌*◌, ℕ, zero, suc, List, [], ◌∷◌, ◌++◌, length, map, take, drop, get_or, refl, sym, ap, ◌∙◌, arith, length-append}
use Rattle.std.specs.Prelude.{All}
use Rattle.std.specs.List.{range_with_len, flat_map}
use Rattle.std.proofs.Math.Nat.{mul-le-mul_right, mul_assoc}
use Rattle.std.proofs.Math.Seq.{take-append-add, drop-append-add}
use Rattle.std.proofs.lemmas.List.{take-append-drop, length-take-le, length-drop, length-take, take_all, drop_all}
use Rattle.std.proofs.lemmas.List.Concat.{flat_map-append}
use Rattle.std.proofs.lemmas.List.Elements.{All-nil, All-head, All-tail, All-append, All-map, All-take, All-drop}
use Rattle.std.proofs.lemmas.List.FromFn.{length-range_with_len, get_or-range_with_len, take-map-range_with_len}
use Rattle.pcm_num.specs.Limit.{FitsBits}
use Rattle.pcm_num.proofs.Limits.{FitsBits-mul_pow}
use Rattle.pcm_format.specs.declared.format.Format.{Format}
use Rattle.pcm_format.specs.declared.settings.Settings.{Settings}
use Rattle.pcm_format.specs.Formats.{bits_of, bytes_of}
use Rattle.pcm_format.specs.Layouts.{channels_of}
use Rattle.pcm_format.specs.Samples.{sample_at, sample_value, samples, spelled}
use Rattle.pcm_format.specs.Frames.{Frame, frame_at, frame_bytes, frames, spelled_frame, spelled_frames, whole_frames}
use Rattle.pcm_format.proofs.Ranges.{map-range-same}
use Rattle.pcm_format.proofs.Spelling.{bits_of-above, bits_of-within, length-flat_map-spelled, sample_value-fits}
use Rattle.pcm_format.proofs.Streams.{frame_at-append, length-frame_at}
use Rattle.pcm_format.proofs.Whole.{frame_fits, whole_frames-mono}
use Rattle.pcm_feeder.specs.Streams.{HaveChannels, frames_of, interleaved}
use Rattle.pcm_plan.specs.Fits.{HaveBits}
use Rattle.pcm_chain.proofs.Waiting.{frames-waiting}

-- ---- the frames of a part of a body

-- the frames of its first bytes are its first frames
pub frames-take : (settings : Settings) (m : ℕ) (body : List ℕ) → m ≤ length body → frames settings (take m body) ≡ take (whole_frames settings m) (frames settings body)
frames-take settings m body within =
    ap (λ n. map (frame_at settings (take m body)) (range_with_len 0 (whole_frames settings n))) long
    ∙ map-range-same (frame_at settings (take m body)) (frame_at settings body) (whole_frames settings m) front
    ∙ sym (take-map-range_with_len (frame_at settings body) 0 (whole_frames settings (length body)) (whole_frames settings m) (whole_frames-mono settings m (length body) within))
  where
    long : length (take m body) ≡ m
    long = length-take-le m body within

    front : (k : ℕ) → k < whole_frames settings m → frame_at settings (take m body) k ≡ frame_at settings body k
    front k below =
        sym (frame_at-append settings (take m body) (drop m body) k (omega (arith, long, frame_fits settings m k below)))
        ∙ ap (λ bytes. frame_at settings bytes k) (take-append-drop m body)

-- the frames of what is left of these once some are gone
pub frames-left : (settings : Settings) (m e : ℕ) (body : List ℕ) → m ≤ length body → e ≤ whole_frames settings m
    → frames_of (channels_of settings.layout) (samples settings.format (drop (e * frame_bytes settings) (take m body))) ≡ drop e (take (whole_frames settings m) (frames settings body))
frames-left settings m e body within there =
    let count : whole_frames settings (length (take m body)) ≡ whole_frames settings m = ap (whole_frames settings) (length-take-le m body within) in
    frames-waiting settings (take m body) e (omega arith) ∙ ap (drop e) (frames-take settings m body within)

-- each frame has the channels of its settings
pub frames-channels : (settings : Settings) (bytes : List ℕ) → HaveChannels (channels_of settings.layout) (frames settings bytes)
frames-channels settings bytes =
    let count = whole_frames settings (length bytes) in
    All-map (λ (frame : Frame). length frame ≡ channels_of settings.layout) (frame_at settings bytes) (range_with_len 0 count)
    (λ k d below. length-frame_at settings bytes (get_or (range_with_len 0 count) k d))

-- ---- their samples

-- a sample inside a frame ends no later than the frame
sample-within : (k c i w n : ℕ) → i < c → (k + 1) * (c * w) ≤ n → (k * c + i + 1) * w ≤ n
sample-within k c i w n below within =
    let up : k * c + i + 1 ≤ (k + 1) * c = omega arith in
    omega (arith, mul-le-mul_right w up, mul_assoc (k + 1) c w)

-- a whole sample of bytes has 32 bits
sample-bits : (format : Format) (bytes : List ℕ) (i : ℕ) → All (λ byte. byte < 256) bytes → (i + 1) * bytes_of format ≤ length bytes → FitsBits 32 (sample_at format bytes i)
sample-bits format bytes i below within =
    let w = bytes_of format in
    let P : ℕ → Type 0 = λ byte. byte < 256 in
    let part = take w (drop (i * w) bytes) in
    let long : length part ≡ w = omega (arith, length-take w (drop (i * w) bytes), length-drop (i * w) bytes) in
    FitsBits-mul_pow (bits_of format) (sample_value format part) (bits_of-above format) (bits_of-within format)
    (sample_value-fits format part long (All-take P w (drop (i * w) bytes) (All-drop P (i * w) bytes below)))

frame-bits : (settings : Settings) (bytes : List ℕ) (k : ℕ) → All (λ byte. byte < 256) bytes → k < whole_frames settings (length bytes) → All (FitsBits 32) (frame_at settings bytes k)
frame-bits settings bytes k below there =
    let c = channels_of settings.layout in
    All-map (FitsBits 32) (λ channel. sample_at settings.format bytes (k * c + channel)) (range_with_len 0 c)
    (λ i d within.
    let here : i < c = omega (arith, length-range_with_len 0 c) in
    let place : get_or (range_with_len 0 c) i d ≡ i = get_or-range_with_len 0 c i d here ∙ omega arith in
    rw place (sample-bits settings.format bytes (k * c + i) below (sample-within k c i (bytes_of settings.format) (length bytes) here (frame_fits settings (length bytes) k there))))

-- so have the frames of bytes
pub frames-bits : (settings : Settings) (bytes : List ℕ) → All (λ byte. byte < 256) bytes → HaveBits 32 (frames settings bytes)
frames-bits settings bytes below =
    let count = whole_frames settings (length bytes) in
    All-map (λ (frame : Frame). All (FitsBits 32) frame) (frame_at settings bytes) (range_with_len 0 count)
    (λ k d within.
    let here : k < count = omega (arith, length-range_with_len 0 count) in
    let place : get_or (range_with_len 0 count) k d ≡ k = get_or-range_with_len 0 count k d here ∙ omega arith in
    rw place (frame-bits settings bytes k below here))

-- frames of `bits` bits are samples of as many
pub interleaved-bits : (bits : ℕ) (list : List Frame) → HaveBits bits list → All (FitsBits bits) (interleaved list)
interleaved-bits bits [] have = All-nil (FitsBits bits)
interleaved-bits bits (frame ∷ list) have =
    let P : Frame → Type 0 = λ (f : Frame). All (FitsBits bits) f in
    All-append (FitsBits bits) frame (interleaved list) (All-head P frame list have) (interleaved-bits bits list (All-tail P frame list have))

-- ---- the bytes of frames

-- samples one after another are spelled as their frames are
pub spelled-interleaved : (format : Format) (list : List Frame) → flat_map (spelled format) (interleaved list) ≡ spelled_frames format list
spelled-interleaved format [] = refl
spelled-interleaved format (frame ∷ list) =
    flat_map-append (spelled format) frame (interleaved list) ∙ ap (λ rest. spelled_frame format frame ++ rest) (spelled-interleaved format list)

-- a frame has a sample's bytes for each channel
length-frame : (format : Format) (c : ℕ) (frame : Frame) → length frame ≡ c → length (spelled_frame format frame) ≡ c * bytes_of format
length-frame format c frame has = length-flat_map-spelled format frame ∙ ap (λ n. n * bytes_of format) has

-- frames have the bytes of one, times their number
pub length-bytes : (format : Format) (c : ℕ) (list : List Frame) → HaveChannels c list → length (spelled_frames format list) ≡ length list * (c * bytes_of format)
length-bytes format c [] have = omega arith
length-bytes format c (frame ∷ list) have =
    let P : Frame → Type 0 = λ (f : Frame). length f ≡ c in
    omega (
      arith,
      length-append (spelled_frame format frame) (spelled_frames format list),
      length-frame format c frame (All-head P frame list have),
      length-bytes format c list (All-tail P frame list have),
    )

-- the bytes after the first frames are those of the other frames
pub bytes-drop : (format : Format) (c n : ℕ) (list : List Frame) → HaveChannels c list → drop (n * (c * bytes_of format)) (spelled_frames format list) ≡ spelled_frames format (drop n list)
bytes-drop format c zero list have = let none : zero * (c * bytes_of format) ≡ 0 = omega arith in ap (λ m. drop m (spelled_frames format list)) none
bytes-drop format c (suc n) [] have = drop_all (suc n * (c * bytes_of format)) [] (omega arith)
bytes-drop format c (suc n) (frame ∷ list) have =
    let P : Frame → Type 0 = λ (f : Frame). length f ≡ c in
    let long = length-frame format c frame (All-head P frame list have) in
    let all : suc n * (c * bytes_of format) ≡ length (spelled_frame format frame) + n * (c * bytes_of format) = omega (arith, long) in
    ap (λ m. drop m (spelled_frame format frame ++ spelled_frames format list)) all
    ∙ drop-append-add (spelled_frame format frame) (spelled_frames format list) (n * (c * bytes_of format))
    ∙ bytes-drop format c n list (All-tail P frame list have)

-- the first bytes are those of the first frames
pub bytes-take : (format : Format) (c n : ℕ) (list : List Frame) → HaveChannels c list → take (n * (c * bytes_of format)) (spelled_frames format list) ≡ spelled_frames format (take n list)
bytes-take format c zero list have = let none : zero * (c * bytes_of format) ≡ 0 = omega arith in ap (λ m. take m (spelled_frames format list)) none
bytes-take format c (suc n) [] have = take_all (suc n * (c * bytes_of format)) [] (omega arith)
bytes-take format c (suc n) (frame ∷ list) have =
    let P : Frame → Type 0 = λ (f : Frame). length f ≡ c in
    let long = length-frame format c frame (All-head P frame list have) in
    let all : suc n * (c * bytes_of format) ≡ length (spelled_frame format frame) + n * (c * bytes_of format) = omega (arith, long) in
    ap (λ m. take m (spelled_frame format frame ++ spelled_frames format list)) all
    ∙ take-append-add (spelled_frame format frame) (spelled_frames format list) (n * (c * bytes_of format))
    ∙ ap (λ rest. spelled_frame format frame ++ rest) (bytes-take format c n list (All-tail P frame list have))

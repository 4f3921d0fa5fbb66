-- What is recorded: the frames of a body, then silence.
use Rattle.std.proofs.Common.{◌≡◌, ℕ, zero, suc, ◌+◌, ◌-◌, ◌*◌, ◌<◌, ◌≤◌, Bool, true, false, nat_lt, List, ◌++◌, length, take, drop, replicate, min, slice_index_or, get_or, pos, Option, Some, None, arith, ap, refl, sym, subst, ◌∙◌}
use Rattle.std.specs.Prelude.{All, IfSome}
use Rattle.std.specs.List.{flat_map, range_with_len}
use Rattle.std.proofs.Math.Nat.{mul-le-mul_right, mul_assoc}
use Rattle.std.proofs.lemmas.Bool.Decides.{nat_tests}
use Rattle.std.proofs.lemmas.Int.{ints}
use Rattle.std.proofs.lemmas.List.{get_or_past, length-drop, length-replicate, length-take, replicate-append-replicate}
use Rattle.std.proofs.lemmas.List.Concat.{flat_map-append}
use Rattle.std.proofs.lemmas.List.Elements.{All-drop, All-map, All-replicate, All-take}
use Rattle.std.proofs.lemmas.List.Folds.{flat_map-map}
use Rattle.std.proofs.lemmas.List.FromFn.{get_or-range_with_len, length-range_with_len}
use Rattle.pcm_num.specs.Limit.{FitsBits}
use Rattle.pcm_num.proofs.Limits.{FitsBits-mul_pow}
use Rattle.pcm_format.specs.declared.format.Format.{Format}
use Rattle.pcm_format.specs.declared.layout.Layout.{Layout}
use Rattle.pcm_format.specs.declared.settings.Settings.{Settings}
use Rattle.pcm_format.specs.Formats.{bits_of, bytes_of}
use Rattle.pcm_format.specs.Layouts.{channels_of}
use Rattle.pcm_format.specs.Samples.{sample_at, sample_value}
use Rattle.pcm_format.specs.Frames.{Frame, frame_at, frames, whole_frames}
use Rattle.pcm_format.proofs.Ranges.{flat_map-range-same, range-add}
use Rattle.pcm_format.proofs.Spelling.{bits_of-above, bits_of-within, sample_value-fits}
use Rattle.pcm_format.proofs.Streams.{get_or-frames, length-frame_at, length-frames}
use Rattle.pcm_format.proofs.Whole.{frame_fits}
use Rattle.pcm_wave.specs.declared.pool.Pool.{Pool}
use Rattle.pcm_wave.specs.DataFiles.{DataFileSeen, body_of}
use Rattle.pcm_wave.specs.Pools.{IsCaptureIn, capture_of, captured_frame, captured_frames, frame_or_silence, frames_in, silent_frame}
use Rattle.pcm_wave.specs.Waves.{settings_of}

-- ---- a frame of a body

-- one that is there
here-frame : (settings : Settings) (body : List ℕ) (k : ℕ) → k < whole_frames settings (length body) → frame_or_silence settings body k ≡ frame_at settings body k
here-frame settings body k below = get_or-frames settings body k (silent_frame settings.layout) below

-- and one past them
past-frame : (settings : Settings) (body : List ℕ) (k : ℕ) → whole_frames settings (length body) ≤ k → frame_or_silence settings body k ≡ silent_frame settings.layout
past-frame settings body k past = get_or_past (frames settings body) k (silent_frame settings.layout) (omega (arith, length-frames settings body))

-- what holds of both
either-frame : (P : Frame → Type 0) (settings : Settings) (body : List ℕ) (k : ℕ) → (k < whole_frames settings (length body) → P (frame_at settings body k)) → P (silent_frame settings.layout)
    → P (frame_or_silence settings body k)
either-frame P settings body k there silent =
    by_test (nat_lt k (whole_frames settings (length body))) refl
  where
    by_test : (b : Bool) → nat_lt k (whole_frames settings (length body)) ≡ b → P (frame_or_silence settings body k)
    by_test true e = let below : k < whole_frames settings (length body) = grind (arith, nat_tests) in subst P (sym (here-frame settings body k below)) (there below)
    by_test false e = let past : whole_frames settings (length body) ≤ k = grind (arith, nat_tests) in subst P (sym (past-frame settings body k past)) silent

-- ---- frames one after another

-- silent frames are silent samples
silent-frames : (channels : ℕ) (f : ℕ → Frame) (a n : ℕ) → ((k : ℕ) → a ≤ k → k < a + n → f k ≡ replicate channels (pos 0))
    → flat_map f (range_with_len a n) ≡ replicate (n * channels) (pos 0)
silent-frames channels f a zero silent = let none : 0 ≡ zero * channels = omega arith in ap (λ m. replicate m (pos 0)) none
silent-frames channels f a (suc n) silent =
    let more : channels + n * channels ≡ suc n * channels = omega arith in
    ap (λ row. row ++ flat_map f (range_with_len (a + 1) n)) (silent a (omega arith) (omega arith))
    ∙ ap (λ rest. replicate channels (pos 0) ++ rest) (silent-frames channels f (a + 1) n (λ k from below. silent k (omega arith) (omega arith)))
    ∙ replicate-append-replicate channels (n * channels) (pos 0)
    ∙ ap (λ m. replicate m (pos 0)) more

-- frames of a body that are all there
there-frames : (settings : Settings) (body : List ℕ) (from first count : ℕ) → (0 < count → first ≡ from) → first + count ≤ whole_frames settings (length body)
    → flat_map (frame_at settings body) (range_with_len first count) ≡ flat_map (frame_or_silence settings body) (range_with_len from count)
there-frames settings body from first zero same there = refl
there-frames settings body from first (suc n) same there =
    flat_map-range-same (frame_at settings body) (frame_or_silence settings body) first (suc n) (λ k below. sym (here-frame settings body (first + k) (omega arith)))
    ∙ ap (λ start. flat_map (frame_or_silence settings body) (range_with_len start (suc n))) (same (omega arith))

-- the frames of a body that are there, and silence for the others
pub loaded-frames : (settings : Settings) (body : List ℕ) (from frames first count : ℕ) → first ≡ min from (whole_frames settings (length body))
    → count ≡ min frames (whole_frames settings (length body) - first)
    → flat_map (frame_at settings body) (range_with_len first count) ++ replicate ((frames - count) * channels_of settings.layout) (pos 0)
    ≡ flat_map (frame_or_silence settings body) (range_with_len from frames)
loaded-frames settings body from frames first count first_is count_is =
    let f = frame_or_silence settings body in
    let rest = frames - count in
    let all : count + rest ≡ frames = omega arith in
    let here = flat_map f (range_with_len from count) in
    ap (λ part. part ++ replicate (rest * channels_of settings.layout) (pos 0)) (there-frames settings body from first count (λ some. omega arith) (omega arith))
    ∙ ap (λ part. here ++ part) (sym (silent-frames (channels_of settings.layout) f (from + count) rest (λ k on below. past-frame settings body k (omega arith))))
    ∙ sym (flat_map-append f (range_with_len from count) (range_with_len (from + count) rest))
    ∙ ap (flat_map f) (sym (range-add from count rest))
    ∙ ap (λ n. flat_map f (range_with_len from n)) all

-- ---- the file that is recorded from

-- a frame of it
of_file : (layout : Layout) (pool : Pool) (file : DataFileSeen) (k : ℕ) → Some file ≡ capture_of pool → IsCaptureIn layout pool
    → captured_frame layout pool k ≡ frame_or_silence (settings_of file.wave) (body_of file) k
of_file layout pool file k same is =
    let fits : file.wave.layout ≡ layout = subst (λ (f : Option DataFileSeen). IfSome f (λ g. g.wave.layout ≡ layout)) (sym same) is in
    subst (λ (f : Option DataFileSeen). slice_index_or (frames_in f) k (silent_frame layout) ≡ frame_or_silence (settings_of file.wave) (body_of file) k) same
    (ap (λ l. slice_index_or (frames (settings_of file.wave) (body_of file)) k (silent_frame l)) (sym fits))

-- frames of it
pub captured-file : (layout : Layout) (pool : Pool) (file : DataFileSeen) (from count : ℕ) → Some file ≡ capture_of pool → IsCaptureIn layout pool
    → flat_map (frame_or_silence (settings_of file.wave) (body_of file)) (range_with_len from count) ≡ flat_map (λ frame. frame) (captured_frames layout pool from count)
captured-file layout pool file from count same is =
    flat_map-range-same (frame_or_silence (settings_of file.wave) (body_of file)) (captured_frame layout pool) from count (λ k below. sym (of_file layout pool file (from + k) same is))
    ∙ sym (flat_map-map (λ frame. frame) (captured_frame layout pool) (range_with_len from count))

-- where there is none
pub captured-silence : (layout : Layout) (pool : Pool) (from count : ℕ) → None ≡ capture_of pool
    → replicate (count * channels_of layout) (pos 0) ≡ flat_map (λ frame. frame) (captured_frames layout pool from count)
captured-silence layout pool from count same =
    sym (silent-frames (channels_of layout) (captured_frame layout pool) from count
    (λ k on below. subst (λ (f : Option DataFileSeen). slice_index_or (frames_in f) k (silent_frame layout) ≡ silent_frame layout) same refl))
    ∙ sym (flat_map-map (λ frame. frame) (captured_frame layout pool) (range_with_len from count))

-- ---- channels

body-channels : (settings : Settings) (body : List ℕ) (k : ℕ) → length (frame_or_silence settings body k) ≡ channels_of settings.layout
body-channels settings body k =
    either-frame (λ frame. length frame ≡ channels_of settings.layout) settings body k (λ below. length-frame_at settings body k) (length-replicate (channels_of settings.layout) (pos 0))

file-channels : (layout : Layout) (file : Option DataFileSeen) (k : ℕ) → IfSome file (λ f. f.wave.layout ≡ layout) → length (slice_index_or (frames_in file) k (silent_frame layout)) ≡ channels_of layout
file-channels layout None k is = length-replicate (channels_of layout) (pos 0)
file-channels layout (Some file) k is =
    ap (λ l. length (slice_index_or (frames (settings_of file.wave) (body_of file)) k (silent_frame l))) (sym is)
    ∙ body-channels (settings_of file.wave) (body_of file) k ∙ ap channels_of is

-- each frame of what is recorded in a layout has its channels
pub captured_frame-channels : (layout : Layout) (pool : Pool) (k : ℕ) → IsCaptureIn layout pool → length (captured_frame layout pool k) ≡ channels_of layout
captured_frame-channels layout pool k is = file-channels layout (capture_of pool) k is

pub captured_frames-channels : (layout : Layout) (pool : Pool) (from count : ℕ) → IsCaptureIn layout pool → All (λ frame. length frame ≡ channels_of layout) (captured_frames layout pool from count)
captured_frames-channels layout pool from count is =
    All-map (λ (frame : Frame). length frame ≡ channels_of layout) (captured_frame layout pool) (range_with_len from count)
    (λ i d below. captured_frame-channels layout pool (get_or (range_with_len from count) i d) is)

-- ---- bits

-- a sample inside a frame ends no later than the frame
sample-within : (k c i w n : ℕ) → i < c → (k + 1) * (c * w) ≤ n → (k * c + i + 1) * w ≤ n
sample-within k c i w n below within =
    let up : k * c + i + 1 ≤ (k + 1) * c = omega arith in
    omega (arith, mul-le-mul_right w up, mul_assoc (k + 1) c w)

-- a whole sample of bytes has 32 bits
sample-bits : (format : Format) (bytes : List ℕ) (i : ℕ) → All (λ byte. byte < 256) bytes → (i + 1) * bytes_of format ≤ length bytes → FitsBits 32 (sample_at format bytes i)
sample-bits format bytes i below within =
    let w = bytes_of format in
    let P : ℕ → Type 0 = λ byte. byte < 256 in
    let part = take w (drop (i * w) bytes) in
    let long : length part ≡ w = omega (arith, length-take w (drop (i * w) bytes), length-drop (i * w) bytes) in
    FitsBits-mul_pow (bits_of format) (sample_value format part) (bits_of-above format) (bits_of-within format)
    (sample_value-fits format part long (All-take P w (drop (i * w) bytes) (All-drop P (i * w) bytes below)))

-- and so has a whole frame
frame-bits : (settings : Settings) (bytes : List ℕ) (k : ℕ) → All (λ byte. byte < 256) bytes → k < whole_frames settings (length bytes) → All (FitsBits 32) (frame_at settings bytes k)
frame-bits settings bytes k below there =
    let c = channels_of settings.layout in
    All-map (FitsBits 32) (λ channel. sample_at settings.format bytes (k * c + channel)) (range_with_len 0 c)
    (λ i d within.
    let here : i < c = omega (arith, length-range_with_len 0 c) in
    let place : get_or (range_with_len 0 c) i d ≡ i = get_or-range_with_len 0 c i d here ∙ omega arith in
    rw place (sample-bits settings.format bytes (k * c + i) below (sample-within k c i (bytes_of settings.format) (length bytes) here (frame_fits settings (length bytes) k there))))

silence-bits : (channels : ℕ) → All (FitsBits 32) (replicate channels (pos 0))
silence-bits channels = All-replicate (FitsBits 32) channels (pos 0) (record { low = omega (arith, ints); high = omega (arith, ints) })

-- each frame of a body, and the silence after them, has 32 bits
pub body-bits : (settings : Settings) (body : List ℕ) (k : ℕ) → All (λ byte. byte < 256) body → All (FitsBits 32) (frame_or_silence settings body k)
body-bits settings body k below =
    either-frame (λ frame. All (FitsBits 32) frame) settings body k (λ there. frame-bits settings body k below there) (silence-bits (channels_of settings.layout))

-- where every captured frame has 32 bits, so have those that are loaded
pub captured_frames-bits : (layout : Layout) (pool : Pool) (from count : ℕ) → ((k : ℕ) → All (FitsBits 32) (captured_frame layout pool k))
    → All (λ frame. All (FitsBits 32) frame) (captured_frames layout pool from count)
captured_frames-bits layout pool from count fits =
    All-map (λ (frame : Frame). All (FitsBits 32) frame) (captured_frame layout pool) (range_with_len from count) (λ i d below. fits (get_or (range_with_len from count) i d))

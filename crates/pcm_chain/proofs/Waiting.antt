-- The frames that wait in a ring, and those of a block that was loaded.
use Rattle.std.proofs.Common.{◌≡◌, ◌<◌, ◌≤◌, ◌+◌, ◌-◌, ◌*◌, ◌/◌, ◌%◌, ℕ, zero, suc, ℤ, pos, List, ◌∷◌, ◌++◌, length, map, take, drop, get_or, replicate, sym, ap, ◌∙◌, arith}
use Rattle.std.specs.List.{range_with_len}
use Rattle.std.proofs.Math.Nat.{mul_assoc, mul-div_cancel, mul-mod_left}
use Rattle.std.proofs.lemmas.List.{length-drop, length-take-le, length-replicate, take_all}
use Rattle.std.proofs.lemmas.List.Elements.{All-map, All-replicate}
use Rattle.std.proofs.lemmas.List.Folds.{flat_map-map}
use Rattle.pcm_format.specs.declared.format.Format.{Format}
use Rattle.pcm_format.specs.declared.layout.Layout.{Layout}
use Rattle.pcm_format.specs.declared.settings.Settings.{Settings}
use Rattle.pcm_format.specs.Formats.{bytes_of}
use Rattle.pcm_format.specs.Frames.{Frame, frame_bytes, frame_at, frames, whole_frames}
use Rattle.pcm_format.specs.Layouts.{channels_of}
use Rattle.pcm_format.specs.Samples.{sample_at, samples}
use Rattle.pcm_format.proofs.Ranges.{map-range-same, part-of-range}
use Rattle.pcm_format.proofs.Streams.{bytes_of-above, channels_of-above, frame_bytes-above, length-frame_at, length-frames, length-samples, sample_at-drop, samples-part}
use Rattle.pcm_format.proofs.Whole.{frames_fit, frames_there}
use Rattle.pcm_rate.proofs.Counts.{div_more}
use Rattle.pcm_feeder.specs.Streams.{silence, frames_of, interleaved, HaveChannels}
use Rattle.pcm_feeder.proofs.Frames.{frames_of-append, frames_of-interleaved, frames_of-samples}
use Rattle.pcm_plan.specs.Plans.{PlanSeen}
use Rattle.pcm_chain.specs.Feeds.{first_frames}
use Rattle.pcm_chain.specs.Pulls.{waiting_frames}

-- ---- the frames of bytes from a later frame on

-- a frame of what is left once n frames are gone
frame_at-drop : (settings : Settings) (bytes : List ℕ) (n i : ℕ) → frame_at settings (drop (n * frame_bytes settings) bytes) i ≡ frame_at settings bytes (n + i)
frame_at-drop settings bytes n i =
    let f = settings.format in
    let c = channels_of settings.layout in
    let w = bytes_of f in
    let start : n * (c * w) ≡ n * c * w = sym (mul_assoc n c w) in
    ap (λ m. frame_at settings (drop m bytes) i) start
    ∙ map-range-same (λ channel. sample_at f (drop (n * c * w) bytes) (i * c + channel)) (λ channel. sample_at f bytes ((n + i) * c + channel)) c
    (λ channel below.
    let place : n * c + (i * c + channel) ≡ (n + i) * c + channel = omega arith in
    sample_at-drop f bytes (n * c) (i * c + channel) ∙ ap (sample_at f bytes) place)

-- how many are left
whole_frames-drop : (settings : Settings) (bytes : List ℕ) (n : ℕ) → n ≤ whole_frames settings (length bytes) → whole_frames settings (length (drop (n * frame_bytes settings) bytes)) ≡ whole_frames settings (length bytes) - n
whole_frames-drop settings bytes n within =
    let z = frame_bytes settings in
    let fits = frames_fit settings (length bytes) n within in
    let rest : length (drop (n * z) bytes) ≡ length bytes - n * z = length-drop (n * z) bytes in
    let more = div_more (length bytes - n * z) (length bytes) z n (frame_bytes-above settings) (omega arith) in
    ap (whole_frames settings) rest ∙ omega (arith, more)

-- the frames of what is left are the later frames
frames-drop : (settings : Settings) (bytes : List ℕ) (n : ℕ) → n ≤ whole_frames settings (length bytes) → frames settings (drop (n * frame_bytes settings) bytes) ≡ drop n (frames settings bytes)
frames-drop settings bytes n within =
    let all = whole_frames settings (length bytes) in
    let left = all - n in
    let g = frame_at settings bytes in
    ap (λ m. map (frame_at settings (drop (n * frame_bytes settings) bytes)) (range_with_len 0 m)) (whole_frames-drop settings bytes n within)
    ∙ map-range-same (frame_at settings (drop (n * frame_bytes settings) bytes)) (λ i. g (n + i)) left (λ i below. frame_at-drop settings bytes n i)
    ∙ sym (part-of-range g n left all (omega arith))
    ∙ take_all left (drop n (frames settings bytes)) (omega (arith, length-drop n (frames settings bytes), length-frames settings bytes))

-- so are the frames of samples that were loaded from there
pub frames-waiting : (settings : Settings) (bytes : List ℕ) (n : ℕ) → n ≤ whole_frames settings (length bytes)
    → frames_of (channels_of settings.layout) (samples settings.format (drop (n * frame_bytes settings) bytes)) ≡ drop n (frames settings bytes)
frames-waiting settings bytes n within = frames_of-samples settings (drop (n * frame_bytes settings) bytes) ∙ frames-drop settings bytes n within

-- ---- the frames of a ring

-- settings with a layout and a format; the rate says nothing of bytes
abbrev settings_of : Layout → Format → Settings
settings_of layout format = record { format = format; layout = layout; rate = 0 }

-- how many whole frames wait
pub length-waiting : (plan : PlanSeen) (format : Format) (bytes : List ℕ)
    → length (waiting_frames plan format bytes) ≡ length bytes / (channels_of plan.source * bytes_of format)
length-waiting plan format bytes =
    let settings = settings_of plan.source format in
    ap length (frames_of-samples settings bytes) ∙ length-frames settings bytes

-- the frames of m frames' bytes, from frame k on
part-waiting : (settings : Settings) (bytes : List ℕ) (k m : ℕ) → (k + m) * frame_bytes settings ≤ length bytes
    → frames_of (channels_of settings.layout) (samples settings.format (take (m * frame_bytes settings) (drop (k * frame_bytes settings) bytes)))
    ≡ take m (drop k (frames_of (channels_of settings.layout) (samples settings.format bytes)))
part-waiting settings bytes k m within =
    let c = channels_of settings.layout in
    let part : ℕ → Frame = λ j. frame_at settings bytes (k + j) in
    let list = map part (range_with_len 0 m) in
    let have : HaveChannels c list = All-map (λ (frame : Frame). length frame ≡ c) part (range_with_len 0 m) (λ i d below. length-frame_at settings bytes (k + get_or (range_with_len 0 m) i d)) in
    ap (frames_of c) (samples-part settings bytes k m within ∙ sym (flat_map-map (λ (frame : Frame). frame) part (range_with_len 0 m)))
    ∙ frames_of-interleaved c list (channels_of-above settings.layout) have
    ∙ sym (part-of-range (frame_at settings bytes) k m (whole_frames settings (length bytes)) (frames_there settings (length bytes) (k + m) within))
    ∙ ap (λ all. take m (drop k all)) (sym (frames_of-samples settings bytes))

-- frames that wait have their bytes in the ring
pub bytes-wait : (plan : PlanSeen) (format : Format) (bytes : List ℕ) (n : ℕ) → n ≤ length (waiting_frames plan format bytes) → n * (channels_of plan.source * bytes_of format) ≤ length bytes
bytes-wait plan format bytes n within =
    frames_fit (settings_of plan.source format) (length bytes) n (omega (arith, length-waiting plan format bytes))

-- a ring's fill gives their number
pub waiting-count : (plan : PlanSeen) (format : Format) (bytes : List ℕ) (source : Layout) (fill c w : ℕ) → fill ≡ length bytes → c ≡ channels_of source → source ≡ plan.source → w ≡ bytes_of format
    → fill / (c * w) ≡ length (waiting_frames plan format bytes)
waiting-count plan format bytes source fill c w filled channels layout width =
    ap (λ z. z / (c * w)) filled ∙ ap (λ z. length bytes / (z * w)) (channels ∙ ap channels_of layout) ∙ ap (λ z. length bytes / (channels_of plan.source * z)) width
    ∙ sym (length-waiting plan format bytes)

-- once the first frames are gone, the others wait
pub waiting-drop : (plan : PlanSeen) (format : Format) (bytes : List ℕ) (n : ℕ) → n ≤ length (waiting_frames plan format bytes)
    → waiting_frames plan format (drop (n * (channels_of plan.source * bytes_of format)) bytes) ≡ drop n (waiting_frames plan format bytes)
waiting-drop plan format bytes n within =
    let settings = settings_of plan.source format in
    frames-waiting settings bytes n (omega (arith, length-waiting plan format bytes)) ∙ ap (drop n) (sym (frames_of-samples settings bytes))

-- ---- a block

pub replicate-add : {X : Type 0} (n m : ℕ) (s : X) → replicate n s ++ replicate m s ≡ replicate (n + m) s
replicate-add zero m s = let none : zero + m ≡ m = omega arith in ap (λ k. replicate k s) (sym none)
replicate-add (suc n) m s = let more : suc n + m ≡ suc (n + m) = omega arith in ap (λ list. s ∷ list) (replicate-add n m s) ∙ ap (λ k. replicate k s) (sym more)

-- silent samples are silent frames
frames_of-silence : (c n : ℕ) → 0 < c → frames_of c (replicate (n * c) (pos 0)) ≡ replicate n (silence c)
frames_of-silence c n above =
    let P : Frame → Type 0 = λ (frame : Frame). length frame ≡ c in
    ap (frames_of c) (sym (joined n)) ∙ frames_of-interleaved c (replicate n (silence c)) above (All-replicate P n (silence c) (length-replicate c (pos 0)))
  where
    joined : (n : ℕ) → interleaved (replicate n (silence c)) ≡ replicate (n * c) (pos 0)
    joined zero = let none : zero * c ≡ 0 = omega arith in ap (λ k. replicate k (pos 0)) (sym none)
    joined (suc n) =
        let all : c + n * c ≡ suc n * c = omega arith in
        ap (λ rest. silence c ++ rest) (joined n) ∙ replicate-add c (n * c) (pos 0) ∙ ap (λ k. replicate k (pos 0)) all

-- what was loaded for a block is the first frames that wait, with silence after them
pub loaded-frames : (plan : PlanSeen) (format : Format) (bytes : List ℕ) (eaten silent c : ℕ) (samples_now : List ℤ) → c ≡ channels_of plan.source → eaten ≤ length (waiting_frames plan format bytes)
    → take (eaten * c + silent * c) samples_now ≡ samples format (take (eaten * c * bytes_of format) bytes) ++ replicate (silent * c) (pos 0)
    → first_frames (eaten + silent) c samples_now ≡ take eaten (waiting_frames plan format bytes) ++ replicate silent (silence c)
loaded-frames plan format bytes eaten silent c samples_now same within loaded =
    let settings = settings_of plan.source format in
    let above : 0 < c = rw same (channels_of-above plan.source) in
    let w = bytes_of format in
    let all : (eaten + silent) * c ≡ eaten * c + silent * c = omega arith in
    let width : eaten * c * w ≡ eaten * (c * w) = mul_assoc eaten c w in
    let z : c * w ≡ frame_bytes settings = ap (λ n. n * w) same in
    let fits : eaten * c * w ≤ length bytes = omega (arith, bytes-wait plan format bytes eaten within, width, ap (λ n. eaten * n) z) in
    let front = samples format (take (eaten * c * w) bytes) in
    let long : length front ≡ eaten * c = length-samples format (take (eaten * c * w) bytes) ∙ ap (λ n. n / w) (length-take-le (eaten * c * w) bytes fits) ∙ mul-div_cancel (eaten * c) (bytes_of-above format) in
    let start : 0 * frame_bytes settings ≡ 0 = omega arith in
    let taken : frames_of c front ≡ take eaten (waiting_frames plan format bytes) =
    ap (λ n. frames_of n front) same
    ∙ ap (λ n. frames_of (channels_of plan.source) (samples format (take n bytes))) (width ∙ ap (λ n. eaten * n) z)
    ∙ ap (λ n. frames_of (channels_of plan.source) (samples format (take (eaten * frame_bytes settings) (drop n bytes)))) (sym start)
    ∙ part-waiting settings bytes 0 eaten (omega (arith, bytes-wait plan format bytes eaten within)) in
    ap (λ n. frames_of c (take n samples_now)) all
    ∙ ap (frames_of c) loaded
    ∙ frames_of-append c front (replicate (silent * c) (pos 0)) above (ap (λ n. n % c) long ∙ mul-mod_left eaten c)
    ∙ ap (λ list. list ++ frames_of c (replicate (silent * c) (pos 0))) taken
    ∙ ap (λ list. take eaten (waiting_frames plan format bytes) ++ list) (frames_of-silence c silent above)

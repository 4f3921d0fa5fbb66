-- What is recorded of the frames that were captured so far is what is recorded of all.
use Rattle.std.proofs.Common.{◌≡◌, ◌<◌, ◌≤◌, ◌+◌, ◌*◌, ℕ, ℤ, pos, negsuc, ◌<ℤ◌, List, [], ◌∷◌, ◌++◌, length, length-append, map, Option, Some, None, refl, sym, ap, ◌∙◌, subst, zero-add, arith}
use Rattle.std.specs.Prelude.{IfSome, not}
use Rattle.std.specs.List.{range_with_len, flat_map}
use Rattle.std.proofs.lemmas.Bool.{and_parts}
use Rattle.std.proofs.lemmas.Bool.Decides.{nat_tests}
use Rattle.std.proofs.lemmas.List.{take-append-le, get_or-drop}
use Rattle.std.proofs.lemmas.List.Concat.{flat_map-append}
use Rattle.std.proofs.lemmas.List.Elements.{All-drop, All-head, All-nil, All-tail}
use Rattle.std.proofs.lemmas.Int.{ints}
use Rattle.std.proofs.lemmas.List.FromFn.{get_or-map-range_with_len}
use Rattle.pcm_format.specs.declared.settings.Settings.{Settings}
use Rattle.pcm_format.specs.declared.format.Format.{Format}
use Rattle.pcm_format.specs.declared.layout.Layout.{Layout}
use Rattle.pcm_format.specs.Formats.{bytes_of}
use Rattle.pcm_format.specs.Samples.{spelled}
use Rattle.pcm_format.specs.Frames.{Frame, frame_bytes, spelled_frame, spelled_frames}
use Rattle.pcm_format.proofs.Spelling.{length-flat_map-spelled}
use Rattle.pcm_format.specs.Layouts.{channels_of}
use Rattle.pcm_format.proofs.Ranges.{map-range-same, map-range-shift, map-range-add}
use Rattle.pcm_wave.specs.declared.pool.Pool.{Pool}
use Rattle.pcm_wave.specs.DataFiles.{DataFileSeen, body_of}
use Rattle.pcm_wave.specs.Pools.{IsCaptureIn, capture_frames, capture_of, captured_frame, captured_frames, frames_in}
use Rattle.pcm_wave.specs.Waves.{settings_of}
use Rattle.pcm_rate.specs.declared.rate.Rate.{Rate}
use Rattle.pcm_rate.specs.Rates.{can, need}
use Rattle.pcm_rate.proofs.Counts.{can-greatest}
use Rattle.pcm_feeder.specs.Layouts.{unity}
use Rattle.pcm_feeder.specs.Limits.{IsRate}
use Rattle.pcm_feeder.specs.Streams.{HaveChannels, silence, stream_of}
use Rattle.pcm_plan.specs.Plans.{PlanSeen, rate_in_plan}
use Rattle.pcm_plan.specs.Through.{rec, recs}
use Rattle.pcm_plan.proofs.Fits.{ratio-in}
use Rattle.pcm_plan.proofs.Through.{length-outs, need_through-rate, outs-add, outs-channels, through-local}
use Rattle.pcm_desk.specs.Device.{DeviceSeen, IsDevice, device_settings, device_filters, record_plan_between, record_rate_between}
use Rattle.pcm_desk.proofs.Ratios.{record-plan-between-fits}
use Rattle.pcm_desk.specs.declared.record_book.RecordBook.{RecordBook}
use Rattle.pcm_desk.specs.RecordBooks.{captures, coming, keeping}
use Rattle.pcm_desk.specs.Channels.{record_rate_at}
use Rattle.pcm_sound.specs.Given.{recorded_bytes}
use Rattle.pcm_sound.specs.Recordings.{Recording, keeps, loses, recorded_frames}
use Rattle.pcm_sound.specs.Valid.{IsRecorded}
use Rattle.pcm_sound.proofs.DeviceLists.{frames-channels}

-- more frames are captured
pub captured-add : (device : DeviceSeen) (pool : Pool) (start n more : ℕ)
    → captured_frames (device_settings device).layout pool start (n + more)
    ≡ captured_frames (device_settings device).layout pool start n ++ captured_frames (device_settings device).layout pool (start + n) more
captured-add device pool start n more = map-range-add (captured_frame (device_settings device).layout pool) start n more

-- the frames captured so far are the first of what is recorded
captured-there : (device : DeviceSeen) (pool : Pool) (start n : ℕ) (place : ℤ) → place <ℤ pos n
    → stream_of (channels_of (device_settings device).layout) (captured_frames (device_settings device).layout pool start n) place
    ≡ stream_of (channels_of (device_settings device).layout) (recorded_frames pool start) place
captured-there device pool start n (negsuc k) below = refl
captured-there device pool start n (pos k) below =
    let silent : Frame = silence (channels_of (device_settings device).layout) in
    get_or-map-range_with_len (captured_frame (device_settings device).layout pool) start n k (start + k) silent (omega (arith, ints)) refl
    ∙ sym (get_or-drop start (capture_frames pool) k silent)

-- a frame that they allow is that of all that is recorded
rec-captured : (device : DeviceSeen) (pool : Pool) (settings : Settings) (start n k : ℕ) → IsDevice device → IsRate settings.rate → k < can (record_rate_between device settings) n
    → rec (record_plan_between device settings) (device_filters device) (captured_frames (device_settings device).layout pool start n) k
    ≡ rec (record_plan_between device settings) (device_filters device) (recorded_frames pool start) k
rec-captured device pool settings start n k d s allowed =
    let plan : PlanSeen = record_plan_between device settings in
    let is = record-plan-between-fits device settings d s in
    let c : ℕ = channels_of (device_settings device).layout in
    let rate : Rate = rate_in_plan plan in
    let ratio = ratio-in plan is in
    let first : k + 1 ≤ can rate n = omega arith in
    let fits : need rate (k + 1) ≤ n = (can-greatest rate ratio.src ratio.dst (k + 1) n).1 first in
    through-local (device_filters device) unity plan.stages (stream_of c (captured_frames (device_settings device).layout pool start n)) (stream_of c (recorded_frames pool start)) (k + 1) is.specs
    (λ place below. captured-there device pool start n place (omega (arith, ints, need_through-rate plan.stages (k + 1) is.one_rate))) (pos k) (omega (arith, ints))

-- so are the bytes of several
pub recorded-captured : (device : DeviceSeen) (pool : Pool) (settings : Settings) (start n from count : ℕ) → IsDevice device → IsRate settings.rate → from + count ≤ can (record_rate_between device settings) n
    → recorded_bytes device settings (captured_frames (device_settings device).layout pool start n) from count
    ≡ recorded_bytes device settings (recorded_frames pool start) from count
recorded-captured device pool settings start n from count d s allowed =
    let none : from + 0 ≡ from = omega arith in
    let before : ℕ → Frame = rec (record_plan_between device settings) (device_filters device) (captured_frames (device_settings device).layout pool start n) in
    let after : ℕ → Frame = rec (record_plan_between device settings) (device_filters device) (recorded_frames pool start) in
    ap (spelled_frames settings.format) (ap (λ s. map before (range_with_len s count)) (sym none)
    ∙ sym (map-range-shift before from 0 count)
    ∙ map-range-same (λ j. before (from + j)) (λ j. after (from + j)) count (λ j below. rec-captured device pool settings start n (from + j) d s (omega arith))
    ∙ map-range-shift after from 0 count
    ∙ ap (λ s. map after (range_with_len s count)) none)

-- ---- bytes

length-spelled_all : (format : Format) (channels : ℕ) (list : List Frame) → HaveChannels channels list → length (spelled_frames format list) ≡ length list * (channels * bytes_of format)
length-spelled_all format channels [] have = omega arith
length-spelled_all format channels (frame ∷ list) have =
    let here : length (flat_map (spelled format) frame) ≡ channels * bytes_of format =
    length-flat_map-spelled format frame ∙ ap (λ n. n * bytes_of format) (All-head (λ (f : Frame). length f ≡ channels) frame list have) in
    let rest = length-spelled_all format channels list (All-tail (λ (f : Frame). length f ≡ channels) frame list have) in
    omega (arith, length-append (flat_map (spelled format) frame) (spelled_frames format list))

-- what is recorded has the bytes of its frames
pub length-recorded : (device : DeviceSeen) (settings : Settings) (frames : List Frame) (from count : ℕ) → IsDevice device → IsRate settings.rate → HaveChannels (channels_of (device_settings device).layout) frames
    → length (recorded_bytes device settings frames from count) ≡ count * frame_bytes settings
length-recorded device settings frames from count d s have =
    let plan : PlanSeen = record_plan_between device settings in
    let list : List Frame = recs plan (device_filters device) frames from count in
    length-spelled_all settings.format (channels_of settings.layout) list (outs-channels plan (device_filters device) unity frames from count (record-plan-between-fits device settings d s) have)
    ∙ ap (λ n. n * frame_bytes settings) (length-outs plan (device_filters device) unity frames from count)

-- what is recorded in two parts
pub recorded-add : (device : DeviceSeen) (settings : Settings) (frames : List Frame) (from n m : ℕ)
    → recorded_bytes device settings frames from (n + m) ≡ recorded_bytes device settings frames from n ++ recorded_bytes device settings frames (from + n) m
recorded-add device settings frames from n m =
    let plan : PlanSeen = record_plan_between device settings in
    ap (spelled_frames settings.format) (outs-add plan (device_filters device) unity frames from n m)
    ∙ flat_map-append (spelled_frame settings.format) (recs plan (device_filters device) frames from n) (recs plan (device_filters device) frames (from + n) m)

-- what may be recorded has the channels of its layout
pub capture-channels : (layout : Layout) (pool : Pool) → IsCaptureIn layout pool → HaveChannels (channels_of layout) (capture_frames pool)
capture-channels layout pool is = at (capture_of pool) is
  where
    at : (file : Option DataFileSeen) → IfSome file (λ (f : DataFileSeen). f.wave.layout ≡ layout) → HaveChannels (channels_of layout) (frames_in file)
    at None none = All-nil (λ (frame : Frame). length frame ≡ channels_of layout)
    at (Some file) same = subst (λ (l : Layout). HaveChannels (channels_of l) (frames_in (Some file))) same (frames-channels (settings_of file.wave) (body_of file))

pub recorded_frames-channels : (layout : Layout) (pool : Pool) (start : ℕ) → IsCaptureIn layout pool → HaveChannels (channels_of layout) (recorded_frames pool start)
recorded_frames-channels layout pool start is = All-drop (λ (frame : Frame). length frame ≡ channels_of layout) start (capture_frames pool) (capture-channels layout pool is)

-- ---- an interrupt

-- an interrupt keeps what its book counts
pub recorded-interrupt : (device : DeviceSeen) (pool : Pool) (handed n : ℕ) (book : RecordBook) (recording : Recording) → IsDevice device → IsRate book.opening.settings.rate → IsCaptureIn (device_settings device).layout pool
    → book.read ≤ book.kept → IsRecorded device pool handed book recording
    → IsRecorded device pool (handed + n) (captures (record_rate_at device book) n book) (keeps device pool n book recording)
recorded-interrupt device pool handed n book recording d s is within v =
    let rate : Rate = record_rate_at device book in
    let x : List Frame = recorded_frames pool recording.start in
    let count : ℕ = keeping rate n book in
    let more : List ℕ = recorded_bytes device book.opening.settings x book.given count in
    let long = length-recorded device book.opening.settings x book.given count d s (recorded_frames-channels (device_settings device).layout pool recording.start is) in
    record {
      kept = omega (arith, length-append recording.kept more, v.kept);
      got = v.got ∙ sym (take-append-le book.read recording.kept more (omega (arith, v.kept)));
      place = omega (arith, v.place);
      whole = λ all.
          let both = and_parts recording.whole (not (loses device n book)) all in
          let some : coming rate n book ≤ count = grind (arith, nat_tests, both.1) in
          let same : count ≡ coming rate n book = omega arith in
          ap (λ front. front ++ more) (v.whole both.0)
          ∙ ap (λ at. recorded_bytes device book.opening.settings x 0 book.given ++ recorded_bytes device book.opening.settings x at count) (sym (zero-add book.given))
          ∙ sym (recorded-add device book.opening.settings x 0 book.given count)
          ∙ ap (λ k. recorded_bytes device book.opening.settings x 0 (book.given + k)) same;
    }

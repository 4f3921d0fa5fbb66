-- The device's bytes without a shortage: what the runs are from their starts to their ends.
use Rattle.std.proofs.Common.{◌≡◌, ℕ, ◌+◌, ◌-◌, ◌*◌, ◌<◌, ◌≤◌, List, [], ◌∷◌, length, take, min, Option, Some, None, inl, inr, refl, sym, ap, ◌∙◌, arith, All, length-take}
use Rattle.std.specs.Prelude.{◌≢◌, option_map}
use Rattle.std.proofs.Math.Nat.{mul-le-mul_right}
use Rattle.std.proofs.lemmas.Bool.{cases_lt}
use Rattle.std.proofs.lemmas.List.{take-append-le, take-take, take_all}
use Rattle.std.proofs.lemmas.List.Elements.{All-cons, All-head, All-nil, All-tail, All-weaker}
use Rattle.pcm_format.specs.Frames.{Frame, spelled_frames}
use Rattle.pcm_feeder.specs.declared.stage.Gain.{Gain}
use Rattle.pcm_desk.specs.Device.{DeviceSeen, IsDevice, device_frame_bytes, device_settings, mixed_for, ring_frames}
use Rattle.pcm_desk.proofs.Ratios.{mixed-grows}
use Rattle.pcm_desk.specs.Desk.{map_at, play_at}
use Rattle.pcm_sound.specs.Gains.{Faders, last_gain}
use Rattle.pcm_sound.specs.Runs.{Run}
use Rattle.pcm_sound.specs.Story.{Story, mixed_gains, mixed_runs}
use Rattle.pcm_sound.specs.Mix.{Table}
use Rattle.pcm_sound.specs.DeviceList.{device_body, device_body_of, device_bytes, device_frames, device_list, mix_at, table_of}
use Rattle.pcm_sound.specs.Plain.{AgreeInCommon, HasNoShortage, IsInPlace, IsUnbroken, SoundAlike, Span, plain_table, span_at, span_frame, spans_of}
use Rattle.pcm_sound.specs.Valid.{StoryIsValid}
use Rattle.pcm_sound.proofs.DeviceLists.{MixAlike, device_body-bytes, device_list-frames, device_list-more, device_list-same, faded_table-same, length-device_bytes, length-device_list, spelled_frames-take, table-frames, tables-alike}
use Rattle.pcm_sound.proofs.Heard.{RunIsHeard, heard-in_place, map-runs-heard, runs-heard, sounding-spans, spans-earlier}
use Rattle.pcm_sound.proofs.Numbers.{by-number}

-- ---- one story

-- each run of a valid story is heard from its start to its end, unless a piece is short
play_heard : (device : DeviceSeen) (story : Story) (slot : ℕ) → StoryIsValid device story → All (RunIsHeard device story.desk.mixed) (story.runs slot)
play_heard device story slot v = runs-heard device story.desk.mixed (play_at device story.desk slot) (story.runs slot) v.limits (v.safe slot) (v.slots slot) (v.placed slot)

map_heard : (device : DeviceSeen) (story : Story) (slot : ℕ) → StoryIsValid device story → All (RunIsHeard device story.desk.mixed) (story.map_runs slot)
map_heard device story slot v = map-runs-heard device story.desk.mixed (map_at device story.desk slot) (story.map_runs slot) (v.maps slot)

story_heard : (device : DeviceSeen) (story : Story) (slot : ℕ) → StoryIsValid device story → All (RunIsHeard device story.desk.mixed) (mixed_runs device story slot)
story_heard device story slot v =
    by-number (All (RunIsHeard device story.desk.mixed)) device story.runs story.map_runs slot (λ at. play_heard device story at v) (λ at. map_heard device story at v)

-- a mapped run is never short
story_whole : (device : DeviceSeen) (story : Story) (slot : ℕ) → StoryIsValid device story → HasNoShortage story → All IsUnbroken (mixed_runs device story slot)
story_whole device story slot v unbroken = by-number (All IsUnbroken) device story.runs story.map_runs slot unbroken (λ at. (v.maps at).whole)

-- and stands in its place
pub story-in_place : (device : DeviceSeen) (story : Story) (slot : ℕ) → StoryIsValid device story → All (λ (run : Run). IsUnbroken run → IsInPlace device story.desk.mixed run) (story.runs slot)
story-in_place device story slot v =
    All-weaker (RunIsHeard device story.desk.mixed) (λ (run : Run). IsUnbroken run → IsInPlace device story.desk.mixed run) (λ run h. heard-in_place device story.desk.mixed run h) (story.runs slot) (play_heard device story slot v)

-- a mapped run stands so whatever happened, and none of its pieces is short
pub map-in_place : (device : DeviceSeen) (story : Story) (slot : ℕ) → StoryIsValid device story → All (λ (run : Run). IsUnbroken run × IsInPlace device story.desk.mixed run) (story.map_runs slot)
map-in_place device story slot v = both (story.map_runs slot) (map_heard device story slot v) (v.maps slot).whole
  where
    both : (runs : List Run) → All (RunIsHeard device story.desk.mixed) runs → All IsUnbroken runs → All (λ (run : Run). IsUnbroken run × IsInPlace device story.desk.mixed run) runs
    both [] h w = All-nil (λ (run : Run). IsUnbroken run × IsInPlace device story.desk.mixed run)
    both (run ∷ runs) h w =
        let whole = All-head IsUnbroken run runs w in
        All-cons (λ (r : Run). IsUnbroken r × IsInPlace device story.desk.mixed r) run runs
        (whole, heard-in_place device story.desk.mixed run (All-head (RunIsHeard device story.desk.mixed) run runs h) whole)
        (both runs (All-tail (RunIsHeard device story.desk.mixed) run runs h) (All-tail IsUnbroken run runs w))

-- the starts and ends of the runs of a story without a shortage say what these give
pub table_of-plain : (device : DeviceSeen) (story : Story) (slot position : ℕ) → StoryIsValid device story → HasNoShortage story → table_of device story slot position ≡ plain_table device story slot position
table_of-plain device story slot position v unbroken =
    sounding-spans device (last_gain (mixed_gains device story slot) position) story.desk.mixed position (mixed_runs device story slot) (story_heard device story slot v)
    (story_whole device story slot v unbroken)

-- and so are the bytes that the device has been given
pub plain-body : (device : DeviceSeen) (story : Story) → StoryIsValid device story → HasNoShortage story → device_body device story ≡ device_body_of device story.faders (plain_table device story) story.desk.handed
plain-body device story v unbroken =
    ap (λ (list : List Frame). spelled_frames (device_settings device).format (take story.desk.handed list))
    (device_list-same device story.faders (table_of device story) story.faders (plain_table device story) story.desk.handed
    (tables-alike device (mixed_for device story.desk.handed) story.faders (table_of device story) (plain_table device story) (λ slot position l. table_of-plain device story slot position v unbroken)))

-- ---- two stories that sound alike

-- a span is heard alike at equal gains
same_gain : (device : DeviceSeen) (one other : Gain) (position : ℕ) (found : Option Span) → (found ≢ None → one ≡ other)
    → option_map (span_frame device one position) found ≡ option_map (span_frame device other position) found
same_gain device one other position None same = refl
same_gain device one other position (Some span) same = ap (λ (gain : Gain). Some (span_frame device gain position span)) (same (λ e. cc))

-- what the runs of a slot give before a position, by the spans until there
spans_give : (device : DeviceSeen) (until : ℕ) (story : Story) → until ≤ story.desk.mixed → StoryIsValid device story → HasNoShortage story → (slot position : ℕ) → position < until
    → table_of device story slot position ≡ option_map (span_frame device (last_gain (mixed_gains device story slot) position) position) (span_at (spans_of device until (mixed_runs device story slot)) position)
spans_give device until story within v unbroken slot position h =
    table_of-plain device story slot position v unbroken
    ∙ spans-earlier device (last_gain (mixed_gains device story slot) position) until story.desk.mixed position (mixed_runs device story slot) h within

-- they give the same before the position until which they sound alike
alike_tables : (device : DeviceSeen) (until : ℕ) (one other : Story) → until ≤ one.desk.mixed → until ≤ other.desk.mixed → StoryIsValid device one → StoryIsValid device other → HasNoShortage one → HasNoShortage other
    → SoundAlike device until one other → (slot position : ℕ) → position < until → table_of device one slot position ≡ table_of device other slot position
alike_tables device until one other first second v w unbroken whole alike slot position h =
    let gain : Gain = last_gain (mixed_gains device one slot) position in
    let same : Gain = last_gain (mixed_gains device other slot) position in
    spans_give device until one first v unbroken slot position h
    ∙ same_gain device gain same position (span_at (spans_of device until (mixed_runs device one slot)) position) (alike.gains slot position)
    ∙ ap (λ (spans : List Span). option_map (span_frame device same position) (span_at spans position)) (alike.spans slot)
    ∙ sym (spans_give device until other second w whole slot position h)

-- a slot that gives a frame is heard there
heard_there : (f : Span → Frame) (found : Option Span) (given : Option Frame) → given ≡ option_map f found → given ≢ None → found ≢ None
heard_there f found given is some none = some (is ∙ ap (option_map f) none)

-- so they are mixed alike
alike_mixes : (device : DeviceSeen) (until : ℕ) (one other : Story) → until ≤ one.desk.mixed → until ≤ other.desk.mixed → StoryIsValid device one → StoryIsValid device other → HasNoShortage one → HasNoShortage other
    → SoundAlike device until one other → MixAlike device until one.faders (table_of device one) other.faders (table_of device other)
alike_mixes device until one other first second v w unbroken whole alike = record {
  slots = λ slot position h. faded_table-same device one.faders other.faders (table_of device one) (table_of device other) slot position
      (alike_tables device until one other first second v w unbroken whole alike slot position h)
      (λ some. alike.faders slot position (heard_there (span_frame device (last_gain (mixed_gains device one slot) position) position) (span_at (spans_of device until (mixed_runs device one slot)) position)
      (table_of device one slot position) (spans_give device until one first v unbroken slot position h) some));
  master = alike.master;
}

-- mixes that are alike are so before an earlier position
alike_earlier : (device : DeviceSeen) (until earlier : ℕ) (one : Faders) (a : Table) (other : Faders) (b : Table) → earlier ≤ until → MixAlike device until one a other b → MixAlike device earlier one a other b
alike_earlier device until earlier one a other b within alike = record {
  slots = λ slot position l. alike.slots slot position (omega (arith, l, within));
  master = λ position l. alike.master position (omega (arith, l, within));
}

-- the front of the device's frames is there once it has been given as many
list_front : (device : DeviceSeen) (faders : Faders) (table : Table) (until count : ℕ) → IsDevice device → until ≤ count → take until (device_list device faders table count) ≡ take until (device_list device faders table until)
list_front device faders table until count d h =
    let split : count ≡ until + (count - until) = omega arith in
    ap (λ k. take until (device_list device faders table k)) split
    ∙ ap (take until) (device_list-more device faders table until (count - until) d)
    ∙ take-append-le until (device_list device faders table until) (device_frames device (mix_at device faders table) (until + (count - until)) until (count - until)) (omega (arith, length-device_list device faders table until))

take_both : {X : Type 0} (a b : ℕ) (xs : List X) → take b (take a xs) ≡ take (min a b) xs
take_both a b xs =
    elim (cases_lt a b) [
      | inl less ↦ take_all b (take a xs) (omega (arith, length-take a xs)) ∙ ap (λ n. take n xs) (let least : a ≡ min a b = omega arith in least)
      | inr most ↦ take-take b a xs most ∙ ap (λ n. take n xs) (let least : b ≡ min a b = omega arith in least)
    ]

min_times : (a b size : ℕ) → min (a * size) (b * size) ≡ min a b * size
min_times a b size =
    elim (cases_lt a b) [
      | inl less ↦ (
          let least : min a b ≡ a = omega arith in
          let more = mul-le-mul_right {m = a} {n = b} size (omega arith) in
          rw least (omega arith))
      | inr most ↦ (
          let least : min a b ≡ b = omega arith in
          let more = mul-le-mul_right {m = b} {n = a} size most in
          rw least (omega arith))
    ]

-- the front of what the device has been given, of `count` frames
body_front : (device : DeviceSeen) (story : Story) (count : ℕ) → StoryIsValid device story
    → take (count * device_frame_bytes device) (device_body device story)
    ≡ spelled_frames (device_settings device).format (take (min story.desk.handed count) (device_list device story.faders (table_of device story) story.desk.handed))
body_front device story count v =
    let size : ℕ = device_frame_bytes device in
    let list : List Frame = device_list device story.faders (table_of device story) story.desk.handed in
    ap (take (count * size)) (device_body-bytes device story v)
    ∙ take_both (story.desk.handed * size) (count * size) (device_bytes device story)
    ∙ ap (λ bytes. take bytes (device_bytes device story)) (min_times story.desk.handed count size)
    ∙ sym (spelled_frames-take device (min story.desk.handed count) list (device_list-frames device story.faders (table_of device story) story.desk.handed v.limits (table-frames device story v)))

-- how long it is
pub length-device_body : (device : DeviceSeen) (story : Story) → StoryIsValid device story → length (device_body device story) ≡ story.desk.handed * device_frame_bytes device
length-device_body device story v =
    let size : ℕ = device_frame_bytes device in
    let more = mul-le-mul_right {m = story.desk.handed} {n = ring_frames device + story.desk.handed} size (omega arith) in
    ap length (device_body-bytes device story v) ∙ length-take (story.desk.handed * size) (device_bytes device story) ∙ omega (arith, length-device_bytes device story v)

-- two stories that sound alike give the device equal bytes, as far as both go
pub alike-bodies : (device : DeviceSeen) (one other : Story) → StoryIsValid device one → StoryIsValid device other → HasNoShortage one → HasNoShortage other
    → SoundAlike device (min one.desk.mixed other.desk.mixed) one other → AgreeInCommon (device_body device one) (device_body device other)
alike-bodies device one other v w unbroken whole alike =
    let until : ℕ = min one.desk.mixed other.desk.mixed in
    let common : ℕ = min one.desk.handed other.desk.handed in
    let spell : List Frame → List ℕ = spelled_frames (device_settings device).format in
    let first : List Frame = device_list device one.faders (table_of device one) one.desk.handed in
    let second : List Frame = device_list device other.faders (table_of device other) other.desk.handed in
    let level = v.mixed in
    let same = w.mixed in
    let below = mixed-grows device common one.desk.handed v.limits (omega arith) in
    let under = mixed-grows device common other.desk.handed v.limits (omega arith) in
    let turned : min other.desk.handed one.desk.handed ≡ common = omega arith in
    ap (λ bytes. take bytes (device_body device one)) (length-device_body device other w)
    ∙ body_front device one other.desk.handed v
    ∙ ap spell (list_front device one.faders (table_of device one) common one.desk.handed v.limits (omega arith))
    ∙ ap (λ (list : List Frame). spell (take common list))
    (device_list-same device one.faders (table_of device one) other.faders (table_of device other) common
    (alike_earlier device until (mixed_for device common) one.faders (table_of device one) other.faders (table_of device other) (omega (arith, below, under, level, same))
    (alike_mixes device until one other (omega arith) (omega arith) v w unbroken whole alike)))
    ∙ ap spell (sym (list_front device other.faders (table_of device other) common other.desk.handed v.limits (omega arith)))
    ∙ ap (λ n. spell (take n second)) (sym turned)
    ∙ sym (body_front device other one.desk.handed w)
    ∙ ap (λ bytes. take bytes (device_body device other)) (sym (length-device_body device one v))

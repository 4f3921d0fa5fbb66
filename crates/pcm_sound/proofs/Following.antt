-- What a channel that records stands for, through every event: the bytes that its book counts of its recording, and the frames.
use Rattle.std.proofs.Common.{◌≡◌, ℕ, ◌+◌, ◌-◌, ◌≤◌, Bool, true, false, cond, eqb, List, ◌++◌, take, min, Ok, Err, inl, inr, refl, sym, ap, ◌∙◌, subst, arith}
use Rattle.std.specs.Prelude.{nat_lt, not, ◌&&◌}
use Rattle.std.proofs.lemmas.List.{take-take, take_all}
use Rattle.std.proofs.lemmas.List.FromFn.{length-map-range_with_len, take-map-range_with_len}
use Rattle.pcm_oss.specs.declared.event.Event.{Event}
use Rattle.pcm_oss.specs.declared.event.Event.TheVariants.{Open, Write, Poke, Read, Ioctl, Join, StartGroup, Close, Mixer, Intr}
use Rattle.pcm_oss.specs.declared.event.Way.TheVariants.{Record}
use Rattle.pcm_oss.specs.declared.reply.Answer.TheVariants.{Got}
use Rattle.pcm_oss.specs.declared.reply.Errno.TheVariants.{Again}
use Rattle.pcm_wave.specs.declared.pool.Pool.{Pool}
use Rattle.pcm_wave.specs.Pools.{captured_frame, captured_frames}
use Rattle.pcm_format.specs.declared.layout.Layout.{Layout}
use Rattle.pcm_format.specs.Frames.{Frame}
use Rattle.pcm_rate.specs.declared.rate.Rate.{Rate}
use Rattle.pcm_rate.specs.Rates.{can}
use Rattle.pcm_rate.proofs.Counts.{len_grows}
use Rattle.pcm_feeder.specs.Limits.{IsRate}
use Rattle.pcm_desk.specs.declared.turn.Turn.{Turn}
use Rattle.pcm_desk.specs.declared.record_book.RecordBook.{RecordBook}
use Rattle.pcm_desk.specs.declared.run_state.RunState.{RunState}
use Rattle.pcm_desk.specs.declared.run_state.RunState.TheVariants.{Free, Setup, Running}
use Rattle.pcm_desk.specs.Device.{DeviceSeen, IsDevice, device_settings}
use Rattle.pcm_desk.specs.RunStates.{is_running}
use Rattle.pcm_desk.specs.RecordBooks.{captured_in, captures, keeping, record_fill_of}
use Rattle.pcm_desk.specs.RecordSafe.{IsRecordUnstarted, RecordIsSafe}
use Rattle.pcm_desk.specs.Channels.{capturing, record_rate_at, Channel}
use Rattle.pcm_desk.specs.Desk.{Desk, after, record_at}
use Rattle.pcm_desk.proofs.Ratios.{record-ratio-between}
use Rattle.pcm_desk.specs.Events.{Fits, frames_taken}
use Rattle.pcm_sound.specs.Given.{recorded_bytes}
use Rattle.pcm_sound.specs.Recordings as recordings
use Rattle.pcm_sound.specs.Recordings.{Recording, handing, recorded_frames, recording_after, recording_from, starts_recording}
use Rattle.pcm_sound.specs.Story.{Story}
use Rattle.pcm_sound.specs.Valid.{IsRecorded, RecordingIsValid, RecordingsAreValid}
use Rattle.pcm_sound.proofs.Recordings.{captured-add, recorded-captured}
use Rattle.pcm_sound.proofs.Recorded.{AllTurned, Turned, idle-unstarted, all-turned}
use Rattle.pcm_desk.proofs.After.{channel-after, recording_or}
use Rattle.pcm_desk.proofs.Channels.{channel_named}

-- the bytes of a recording that its book counts
abbrev pub bytes_in : RecordBook → Recording → List ℕ
bytes_in book recording = take book.kept recording.kept

-- the frames of the device that a book captured of a recording
abbrev pub frames_of_book : DeviceSeen → Pool → RecordBook → Recording → List Frame
frames_of_book device pool book recording = captured_frames (device_settings device).layout pool recording.start book.captured

-- what an event that brings no frames leaves of them: the first ones
pub record Follows (device : DeviceSeen) (pool : Pool) (old new : RecordBook) (before now : Recording) : Type 0 where
  pub bytes : bytes_in new now ≡ take new.kept (bytes_in old before)
  pub frames : frames_of_book device pool new now ≡ take new.captured (frames_of_book device pool old before)

follows-less : (device : DeviceSeen) (pool : Pool) (old new : RecordBook) (before now : Recording) → new.kept ≤ old.kept → new.captured ≤ old.captured → now.kept ≡ before.kept → now.start ≡ before.start → Follows device pool old new before now
follows-less device pool old new before now kept captured bytes start = record {
  bytes = ap (take new.kept) bytes ∙ sym (take-take new.kept old.kept before.kept kept);
  frames = ap (λ s. captured_frames (device_settings device).layout pool s new.captured) start
      ∙ sym (take-map-range_with_len (captured_frame (device_settings device).layout pool) before.start old.captured new.captured captured);
}

follows-none : (device : DeviceSeen) (pool : Pool) (old new : RecordBook) (before now : Recording) → new.kept ≡ 0 → new.captured ≡ 0 → Follows device pool old new before now
follows-none device pool old new before now kept captured = record { bytes = rw kept refl; frames = rw captured refl }

follows_at : (device : DeviceSeen) (pool : Pool) (handed : ℕ) (was is : Bool) (old new : RecordBook) (recording : Recording) → is_running old.state ≡ was → is_running new.state ≡ is → Turned device old new → RecordingIsValid device pool handed old recording
    → Follows device pool old new recording (cond (not was && is) (recording_from handed) recording)
follows_at device pool handed true is old new recording before now t v = elim t.counts [
  | inl stays ↦ follows-less device pool old new recording recording (let e = stays.kept in omega arith) (let e = stays.captured in omega arith) refl refl
  | inr ends ↦ follows-none device pool old new recording recording ends.kept ends.captured
]
follows_at device pool handed false false old new recording before now t v = elim t.counts [
  | inl stays ↦ follows-less device pool old new recording recording (let e = stays.kept in omega arith) (let e = stays.captured in omega arith) refl refl
  | inr ends ↦ follows-none device pool old new recording recording ends.kept ends.captured
]
follows_at device pool handed false true old new recording before now t v = elim t.counts [
  | inl stays ↦ (let none = idle-unstarted old.state old before v.safe.order in follows-none device pool old new recording (recording_from handed) (stays.kept ∙ none.kept_none) (stays.captured ∙ none.captured_none))
  | inr ends ↦ follows-none device pool old new recording (recording_from handed) ends.kept ends.captured
]

follows-turned : (device : DeviceSeen) (pool : Pool) (handed : ℕ) (old new : RecordBook) (recording : Recording) → Turned device old new → RecordingIsValid device pool handed old recording
    → Follows device pool old new recording (cond (starts_recording old new) (recording_from handed) recording)
follows-turned device pool handed old new recording t v = follows_at device pool handed (is_running old.state) (is_running new.state) old new recording refl refl t v

follows-read : (device : DeviceSeen) (pool : Pool) (handed read : ℕ) (book : RecordBook) (recording : Recording)
    → let new : RecordBook = record book { read = read } in Follows device pool book new recording (cond (starts_recording book new) (recording_from handed) (handing book new recording))
follows-read device pool handed read book recording = at (is_running book.state)
  where
    at : (b : Bool) → let new : RecordBook = record book { read = read } in Follows device pool book new recording (cond (not b && b) (recording_from handed) (handing book new recording))
    at true = follows-less device pool book (record book { read = read }) recording (handing book (record book { read = read }) recording) (omega arith) (omega arith) refl refl
    at false = follows-less device pool book (record book { read = read }) recording (handing book (record book { read = read }) recording) (omega arith) (omega arith) refl refl

-- what an event leaves of a slot
abbrev pub FollowsAt : DeviceSeen → Pool → Desk → Event → Desk → ℕ → Recording → Type 0
FollowsAt device pool old event new slot recording =
    Follows device pool (record_at device old slot) (record_at device new slot) recording (recording_after device pool old event (record_at device old slot) (record_at device new slot) recording)

read_turned : (device : DeviceSeen) (pool : Pool) (handed count : ℕ) (empty : Bool) (book : RecordBook) (recording : Recording)
    → let new : RecordBook = (cond {A = Turn RecordBook} empty (record { book = book; reply = Err Again }) (record { book = record book { read = book.read + min count (record_fill_of book) }; reply = Ok (Got (min count (record_fill_of book))) })).book in
    Follows device pool book new recording (cond (starts_recording book new) (recording_from handed) (handing book new recording))
read_turned device pool handed count true book recording = follows-read device pool handed book.read book recording
read_turned device pool handed count false book recording = follows-read device pool handed (book.read + min count (record_fill_of book)) book recording

read_follows : (device : DeviceSeen) (pool : Pool) (desk : Desk) (fd count slot : ℕ) (recording : Recording) → FollowsAt device pool desk (Read fd count) (after device desk (Read fd count)).desk slot recording
read_follows device pool desk fd count slot recording =
    let old : RecordBook = record_at device desk slot in
    channel-after device desk (Read fd count) (channel_named Record slot)
    (λ (c : Channel). Follows device pool old (recording_or old c) recording (recording_after device pool desk (Read fd count) old (recording_or old c) recording))
    (follows-read device pool desk.handed old.read old recording) (read_turned device pool desk.handed count (nat_lt 0 count && eqb (record_fill_of old) 0) old recording)
    (λ at way settings is same free. cc) (λ at group is member. cc)

turned_follows : (device : DeviceSeen) (pool : Pool) (story : Story) (new : Desk) (slot : ℕ) → AllTurned device story.desk new → RecordingsAreValid device pool story
    → Follows device pool (record_at device story.desk slot) (record_at device new slot) (story.recordings slot) (cond (starts_recording (record_at device story.desk slot) (record_at device new slot)) (recording_from story.desk.handed) (story.recordings slot))
turned_follows device pool story new slot turned v =
    follows-turned device pool story.desk.handed (record_at device story.desk slot) (record_at device new slot) (story.recordings slot) (turned slot (record { rate = (v slot).settings; safe = (v slot).safe })) (v slot)

-- an event that takes no frames leaves the first bytes and the first frames of each recording
pub recording-follows : (device : DeviceSeen) (pool : Pool) (story : Story) (event : Event) (slot : ℕ) → Fits device pool event → frames_taken event ≡ 0 → RecordingsAreValid device pool story
    → FollowsAt device pool story.desk event (after device story.desk event).desk slot (story.recordings slot)
recording-follows device pool story (Open fd way settings) slot fits none v = turned_follows device pool story (after device story.desk (Open fd way settings)).desk slot (all-turned device pool story.desk (Open fd way settings) fits tt) v
recording-follows device pool story (Write fd source at count) slot fits none v = turned_follows device pool story (after device story.desk (Write fd source at count)).desk slot (all-turned device pool story.desk (Write fd source at count) fits tt) v
recording-follows device pool story (Poke fd offset at count) slot fits none v = turned_follows device pool story (after device story.desk (Poke fd offset at count)).desk slot (all-turned device pool story.desk (Poke fd offset at count) fits tt) v
recording-follows device pool story (Read fd count) slot fits none v = read_follows device pool story.desk fd count slot (story.recordings slot)
recording-follows device pool story (Ioctl fd request) slot fits none v = turned_follows device pool story (after device story.desk (Ioctl fd request)).desk slot (all-turned device pool story.desk (Ioctl fd request) fits tt) v
recording-follows device pool story (Join fd group) slot fits none v = turned_follows device pool story (after device story.desk (Join fd group)).desk slot (all-turned device pool story.desk (Join fd group) fits tt) v
recording-follows device pool story (StartGroup fd group) slot fits none v = turned_follows device pool story (after device story.desk (StartGroup fd group)).desk slot (all-turned device pool story.desk (StartGroup fd group) fits tt) v
recording-follows device pool story (Close fd) slot fits none v = turned_follows device pool story (after device story.desk (Close fd)).desk slot (all-turned device pool story.desk (Close fd) fits tt) v
recording-follows device pool story (Mixer request) slot fits none v = turned_follows device pool story (after device story.desk (Mixer request)).desk slot (all-turned device pool story.desk (Mixer request) fits tt) v
recording-follows device pool story (Intr n) slot fits none v = absurd (let some = fits.0 in omega arith)

-- ---- an interrupt

-- what an interrupt leaves of a slot: what it keeps after the bytes, and what was captured after the frames
pub record Hears (device : DeviceSeen) (pool : Pool) (handed n : ℕ) (old new : RecordBook) (before now : Recording) : Type 0 where
  pub bytes : bytes_in new now ≡ take new.kept (bytes_in old before
      ++ recorded_bytes device old.opening.settings (frames_of_book device pool old before ++ captured_frames (device_settings device).layout pool handed n) old.given (keeping (record_rate_at device old) n old))
  pub frames : frames_of_book device pool new now ≡ take new.captured (frames_of_book device pool old before ++ captured_frames (device_settings device).layout pool handed n)

-- a channel that hadn't started hears nothing
hears-nothing : (device : DeviceSeen) (pool : Pool) (handed n : ℕ) (book : RecordBook) (recording : Recording) → IsRecordUnstarted book → Hears device pool handed n book book recording recording
hears-nothing device pool handed n book recording none = record { bytes = rw (none.kept_none) refl; frames = rw (none.captured_none) refl }

hears-running : (device : DeviceSeen) (pool : Pool) (handed n : ℕ) (book : RecordBook) (recording : Recording) → IsDevice device → IsRate book.opening.settings.rate → RecordIsSafe (record_rate_at device book) book → IsRecorded device pool handed book recording
    → Hears device pool handed n book (captures (record_rate_at device book) n book) recording (recordings.keeps device pool n book recording)
hears-running device pool handed n book recording d s safe r =
    let rate : Rate = record_rate_at device book in
    let ratio = record-ratio-between device book.opening.settings d s in
    let layout : Layout = (device_settings device).layout in
    let new : RecordBook = captures rate n book in
    let count : ℕ = keeping rate n book in
    let x : List Frame = recorded_frames pool recording.start in
    let grows = len_grows rate (book.captured - rate.lookahead) (book.captured + n - rate.lookahead) ratio.src (omega arith) in
    let within : book.given + count ≤ can rate (book.captured + n) = omega (arith, safe.given, grows) in
    let all : captured_frames layout pool recording.start book.captured ++ captured_frames layout pool handed n ≡ captured_frames layout pool recording.start (book.captured + n) =
    sym (captured-add device pool recording.start book.captured n ∙ ap (λ at. captured_frames layout pool recording.start book.captured ++ captured_frames layout pool at n) r.place) in
    let more : List ℕ = recorded_bytes device book.opening.settings x book.given count in
    let heard : recorded_bytes device book.opening.settings (captured_frames layout pool recording.start book.captured ++ captured_frames layout pool handed n) book.given count ≡ more =
    ap (λ (frames : List Frame). recorded_bytes device book.opening.settings frames book.given count) all ∙ recorded-captured device pool book.opening.settings recording.start (book.captured + n) book.given count d s within in
    record {
      bytes = ap (λ front. take new.kept (front ++ more)) (sym (take_all book.kept recording.kept (omega (arith, r.kept))))
          ∙ ap (λ back. take new.kept (bytes_in book recording ++ back)) (sym heard);
      frames = sym (ap (take (book.captured + n)) all ∙ take_all (book.captured + n) (captured_frames layout pool recording.start (book.captured + n)) (omega (arith, length-map-range_with_len (captured_frame layout pool) recording.start (book.captured + n))));
    }

hears_at : (device : DeviceSeen) (pool : Pool) (handed n : ℕ) (state : RunState) (book : RecordBook) (recording : Recording) → book.state ≡ state → IsDevice device → RecordingIsValid device pool handed book recording
    → let new : RecordBook = captured_in (record_rate_at device book) state n book in
    Hears device pool handed n book new recording (cond (not (is_running state) && is_running new.state) (recording_from handed) (cond (is_running state) (recordings.keeps device pool n book recording) recording))
hears_at device pool handed n Free book recording e d v =
    subst (λ (b : Bool). Hears device pool handed n book book recording (cond b (recording_from handed) recording)) (sym (ap is_running e))
    (hears-nothing device pool handed n book recording (idle-unstarted book.state book (ap is_running e) v.safe.order))
hears_at device pool handed n Setup book recording e d v =
    subst (λ (b : Bool). Hears device pool handed n book book recording (cond b (recording_from handed) recording)) (sym (ap is_running e))
    (hears-nothing device pool handed n book recording (idle-unstarted book.state book (ap is_running e) v.safe.order))
hears_at device pool handed n Running book recording e d v = hears-running device pool handed n book recording d v.settings v.safe (v.running (ap is_running e))

-- an interrupt brings its frames to each recording
pub recording-hears : (device : DeviceSeen) (pool : Pool) (story : Story) (n slot : ℕ) → IsDevice device → RecordingsAreValid device pool story
    → let old : RecordBook = record_at device story.desk slot in
    let new : RecordBook = capturing device n old in
    Hears device pool story.desk.handed n old new (story.recordings slot) (recording_after device pool story.desk (Intr n) old new (story.recordings slot))
recording-hears device pool story n slot d v =
    let old : RecordBook = record_at device story.desk slot in
    hears_at device pool story.desk.handed n old.state old (story.recordings slot) refl d (v slot)

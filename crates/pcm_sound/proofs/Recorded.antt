-- A recording stays what its book counts through every event that fits.
use Rattle.std.proofs.Common.{◌≡◌, ℕ, ◌+◌, ◌-◌, Bool, true, false, cond, eqb, List, [], ◌∷◌, ◌++◌, take, drop, min, Option, Some, None, Ok, Err, ◌⊎◌, inl, inr, refl, sym, ap, ◌∙◌, subst, arith, Result}
use Rattle.std.specs.Prelude.{All, nat_lt, not, ◌&&◌}
use Rattle.std.proofs.Math.Seq.{take-add}
use Rattle.std.proofs.lemmas.List.Elements.{All-head, All-tail}
use Rattle.std.proofs.lemmas.List.{append-nil}
use Rattle.pcm_format.specs.declared.settings.Settings.{Settings}
use Rattle.pcm_oss.specs.declared.event.Event.{Event}
use Rattle.pcm_oss.specs.declared.event.Event.TheVariants.{Open, Write, Poke, Read, Ioctl, Join, StartGroup, Close, Mixer, Intr}
use Rattle.pcm_oss.specs.declared.event.Way.{Way}
use Rattle.pcm_oss.specs.declared.event.Way.TheVariants.{Record}
use Rattle.pcm_oss.specs.declared.reply.Answer.TheVariants.{Got}
use Rattle.pcm_oss.specs.declared.reply.Errno.TheVariants.{Again}
use Rattle.pcm_oss.specs.declared.request.Request.{Request}
use Rattle.pcm_oss.specs.declared.request.Request.TheVariants.{SetTrigger}
use Rattle.pcm_wave.specs.declared.pool.Pool.{Pool}
use Rattle.pcm_wave.specs.Pools.{IsCaptureIn}
use Rattle.pcm_feeder.specs.Limits.{IsRate}
use Rattle.pcm_rate.specs.Rates.{can}
use Rattle.pcm_desk.specs.declared.turn.Turn.{Turn}
use Rattle.pcm_desk.specs.declared.device.Held.{Held}
use Rattle.pcm_desk.specs.declared.record_book.RecordBook.{RecordBook}
use Rattle.pcm_desk.specs.declared.run_state.RunState.{RunState}
use Rattle.pcm_desk.specs.declared.run_state.RunState.TheVariants.{Free, Setup, Running}
use Rattle.pcm_desk.specs.Device.{DeviceSeen, IsDevice, device_settings, record_rate_between, record_slots, here_at}
use Rattle.pcm_desk.specs.RecordBooks as records
use Rattle.pcm_desk.specs.RunStates.{is_running}
use Rattle.pcm_desk.specs.RecordBooks.{captures, record_begun, record_fill_of}
use Rattle.pcm_desk.specs.RecordRequests.{record_ask}
use Rattle.pcm_desk.specs.RecordSafe.{IsRecordInOrder, IsRecordUnstarted, RecordIsSafe}
use Rattle.pcm_desk.specs.Channels.{record_rate_at, own_request, own_join, own_turn, Grouping, Channel, channel_begun, member_refusal}
use Rattle.pcm_desk.specs.Triggers.{both_bits}
use Rattle.pcm_desk.specs.Desk.{Desk, after, interrupt_turn, record_at, record_unopened, grouping_at}
use Rattle.pcm_desk.specs.Events.{Fits, frames_taken}
use Rattle.pcm_desk.proofs.RecordAsking.{record-ask-rate, record-ask-settings}
use Rattle.pcm_desk.proofs.RecordLeaves.{Ends, Stays, record-ask-leaves}
use Rattle.pcm_desk.proofs.RecordSafe.{can-none, record-safe-ask, record-safe-begun, record-safe-captured, record-safe-closed, record-safe-read, safe-unstarted}
use Rattle.pcm_desk.proofs.Slots.{record_at-capturing}
use Rattle.pcm_desk.proofs.Turning.{handed-taken}
use Rattle.pcm_oss.proofs.Limits.{usual-fragments}
use Rattle.pcm_sound.specs.Given.{recorded_bytes}
use Rattle.pcm_sound.specs.Recordings.{Recording, going_on, handing, recorded_frames, recording_after, recording_from, starts_recording}
use Rattle.pcm_sound.specs.Recordings as recordings
use Rattle.pcm_desk.specs.Channels as channels
use Rattle.pcm_sound.specs.Story.{Story, story_at_start, story_of, told, told_all}
use Rattle.pcm_sound.specs.Valid.{IsRecorded, RecordingIsValid, RecordingsAreValid}
use Rattle.pcm_sound.proofs.Recordings.{recorded-interrupt}
use Rattle.pcm_sound.proofs.Stories.{get_or-same}
use Rattle.pcm_desk.proofs.After.{channel-after, recording_or}
use Rattle.pcm_desk.proofs.Channels.{channel_named}
use Rattle.pcm_oss.specs.declared.reply.Errno.{Errno}
use Rattle.pcm_desk.specs.declared.here.Here.{Here}

-- ---- one slot

-- what an event that brings no frames and gets no bytes leaves of a record book: its counts, or nothing of its run
pub record Turned (device : DeviceSeen) (old new : RecordBook) : Type 0 where
  pub rate : IsRate new.opening.settings.rate
  pub safe : RecordIsSafe (record_rate_at device new) new
  pub counts : Stays old new ⊎ Ends old new

-- a book that stays
pub turned-same : (device : DeviceSeen) (book : RecordBook) → IsRate book.opening.settings.rate → RecordIsSafe (record_rate_at device book) book → Turned device book book
turned-same device book rate safe = record {
  rate = rate;
  safe = safe;
  counts = inl (record { settings = refl; fragments = refl; captured = refl; given = refl; kept = refl; read = refl; runs = λ h. h; held = λ h. h });
}

-- a channel that hadn't started counts nothing
pub idle-unstarted : (state : RunState) (book : RecordBook) → is_running state ≡ false → IsRecordInOrder state book → IsRecordUnstarted book
idle-unstarted Free book idle o = o
idle-unstarted Setup book idle o = o
idle-unstarted Running book idle o = cc

-- nothing is recorded yet
recorded-none : (device : DeviceSeen) (pool : Pool) (handed : ℕ) (book : RecordBook) → book.captured ≡ 0 → book.given ≡ 0 → book.kept ≡ 0 → book.read ≡ 0 → IsRecorded device pool handed book (recording_from handed)
recorded-none device pool handed book captured given kept read = record {
  kept = sym kept;
  got = ap (λ n. take n []) (sym read);
  place = omega (arith, captured);
  whole = λ all. sym (ap (recorded_bytes device book.opening.settings (recorded_frames pool handed) 0) given);
}

-- what is recorded by a book is so by one that counts the same
recorded-stays : (device : DeviceSeen) (pool : Pool) (handed : ℕ) (old new : RecordBook) (recording : Recording) → Stays old new → IsRecorded device pool handed old recording → IsRecorded device pool handed new recording
recorded-stays device pool handed old new recording s r = record {
  kept = r.kept ∙ sym s.kept;
  got = r.got ∙ ap (λ n. take n recording.kept) (sym s.read);
  place = ap (λ n. recording.start + n) s.captured ∙ r.place;
  whole = λ all. r.whole all ∙ ap (λ n. recorded_bytes device old.opening.settings (recorded_frames pool recording.start) 0 n) (sym s.given)
      ∙ ap (λ (settings : Settings). recorded_bytes device settings (recorded_frames pool recording.start) 0 new.given) (sym s.settings);
}

running_at : (device : DeviceSeen) (pool : Pool) (handed : ℕ) (was is : Bool) (old new : RecordBook) (recording : Recording) → is_running old.state ≡ was → is_running new.state ≡ is → Turned device old new
    → RecordingIsValid device pool handed old recording → is ≡ true → IsRecorded device pool handed new (cond (not was && is) (recording_from handed) recording)
running_at device pool handed was false old new recording before now t v running = cc
running_at device pool handed true true old new recording before now t v running = elim t.counts [
  | inl stays ↦ recorded-stays device pool handed old new recording stays (v.running before)
  | inr ends ↦ absurd (let clash : true ≡ false = sym now ∙ ends.stopped in cc)
]
running_at device pool handed false true old new recording before now t v running = elim t.counts [
  | inl stays ↦
      let none = idle-unstarted old.state old before v.safe.order in
      let given : old.given ≡ 0 = v.safe.given ∙ ap (λ n. records_can device old n) none.captured_none ∙ can-none (record_rate_at device old) in
      recorded-none device pool handed new (stays.captured ∙ none.captured_none) (stays.given ∙ given) (stays.kept ∙ none.kept_none) (stays.read ∙ none.read_none)
  | inr ends ↦ absurd (let clash : true ≡ false = sym now ∙ ends.stopped in cc)
]
  where
    records_can : DeviceSeen → RecordBook → ℕ → ℕ
    records_can d book n = can (record_rate_at d book) n

-- a slot's recording after such an event
valid-turned : (device : DeviceSeen) (pool : Pool) (desk : Desk) (event : Event) (old new : RecordBook) (recording : Recording) → going_on device pool event old new recording ≡ recording → Turned device old new
    → RecordingIsValid device pool desk.handed old recording → RecordingIsValid device pool desk.handed new (recording_after device pool desk event old new recording)
valid-turned device pool desk event old new recording same t v = record {
  settings = t.rate;
  safe = t.safe;
  running = λ running. subst (λ (r : Recording). IsRecorded device pool desk.handed new (cond (starts_recording old new) (recording_from desk.handed) r)) (sym same)
      (running_at device pool desk.handed (is_running old.state) (is_running new.state) old new recording refl refl t v running);
}

-- after a read
read_at : (device : DeviceSeen) (pool : Pool) (handed fd count : ℕ) (book : RecordBook) (recording : Recording) → RecordingIsValid device pool handed book recording
    → let new : RecordBook = record book { read = book.read + min count (record_fill_of book) } in
    (running : is_running book.state ≡ true) → IsRecorded device pool handed new (handing book new recording)
read_at device pool handed fd count book recording v running =
    let r = v.running running in
    let m : ℕ = min count (record_fill_of book) in
    let more : book.read + m - book.read ≡ m = omega arith in
    record {
      kept = r.kept;
      got = ap (λ front. front ++ take (book.read + m - book.read) (drop book.read recording.kept)) r.got
          ∙ ap (λ n. take book.read recording.kept ++ take n (drop book.read recording.kept)) more
          ∙ sym (take-add book.read m recording.kept);
      place = r.place;
      whole = r.whole;
    }

-- ---- the desk

-- a record book that is within its limits and in order
pub record IsGood (device : DeviceSeen) (book : RecordBook) : Type 0 where
  pub rate : IsRate book.opening.settings.rate
  pub safe : RecordIsSafe (record_rate_at device book) book

-- an event that brings no frames and gets no bytes turns each record book so
abbrev pub AllTurned : DeviceSeen → Desk → Desk → Type 0
AllTurned device old new = (slot : ℕ) → IsGood device (record_at device old slot) → Turned device (record_at device old slot) (record_at device new slot)

turned-begun : (device : DeviceSeen) (old : RecordBook) (settings : Settings) → IsRate settings.rate → Turned device old (record_begun settings)
turned-begun device old settings rate = record {
  rate = rate;
  safe = record-safe-begun (record_rate_between device settings) settings;
  counts = inr (record { captured = refl; given = refl; kept = refl; read = refl; stopped = refl });
}

turned-closed : (device : DeviceSeen) (book : RecordBook) → IsGood device book → Turned device book (records.closed book)
turned-closed device book g = record {
  rate = g.rate;
  safe = record-safe-closed (record_rate_at device book) book g.safe;
  counts = inr (record { captured = refl; given = refl; kept = refl; read = refl; stopped = refl });
}

turned-asked : (device : DeviceSeen) (request : Request) (book : RecordBook) → IsGood device book → Turned device book (record_ask request book).book
turned-asked device request book g =
    let new : RecordBook = (record_ask request book).book in
    record {
      rate = record-ask-rate request book g.rate;
      safe = record-safe-ask (record_rate_at device book) (record_rate_at device new) request book (λ e. ap (λ (s : Settings). record_rate_between device s) (record-ask-settings request book e)) g.safe;
      counts = (record-ask-leaves (record_rate_at device book) request book g.safe).counts;
    }

-- a request, which may be refused to a member of a group
requested : (device : DeviceSeen) (here : Here) (request : Request) (refusal : Option Errno) (book : RecordBook) → IsGood device book → Turned device book (recording_or book (own_request device here request refusal (channels.Recording book)).book)
requested device here request None book g = turned-asked device request book g
requested device here request (Some errno) book g = turned-same device book g.rate g.safe

joined : (device : DeviceSeen) (here : Here) (result : Result ℕ Errno) (book : RecordBook) → IsGood device book → Turned device book (recording_or book (own_join device here result (channels.Recording book)).book)
joined device here (Ok group) book g = turned-asked device (SetTrigger 0) book g
joined device here (Err errno) book g = turned-same device book g.rate g.safe

-- an event that brings no frames and gets no bytes
abbrev pub GetsNone : Event → Type 0
GetsNone (Read fd count) = ⊥
GetsNone (Intr n) = ⊥
GetsNone event = Unit {0}

-- the turn of a channel that records
turn_turns : (device : DeviceSeen) (handed : ℕ) (grouping : Grouping) (event : Event) (book : RecordBook) → GetsNone event → IsGood device book → Turned device book (recording_or book (own_turn device handed grouping event (channels.Recording book)).book)
turn_turns device handed grouping (Open fd way settings) book none g = turned-same device book g.rate g.safe
turn_turns device handed grouping (Write fd source at count) book none g = turned-same device book g.rate g.safe
turn_turns device handed grouping (Poke fd offset at count) book none g = turned-same device book g.rate g.safe
turn_turns device handed grouping (Read fd count) book none g = absurd none
turn_turns device handed grouping (Ioctl fd request) book none g = requested device (here_at device handed) request (member_refusal grouping.member request) book g
turn_turns device handed grouping (Join fd group) book none g = joined device (here_at device handed) (grouping.joins group) book g
turn_turns device handed grouping (StartGroup fd group) book none g = turned-same device book g.rate g.safe
turn_turns device handed grouping (Close fd) book none g = turned-closed device book g
turn_turns device handed grouping (Mixer request) book none g = turned-same device book g.rate g.safe
turn_turns device handed grouping (Intr n) book none g = absurd none

pub all-turned : (device : DeviceSeen) (pool : Pool) (desk : Desk) (event : Event) → Fits device pool event → GetsNone event → AllTurned device desk (after device desk event).desk
all-turned device pool desk event fits none slot g =
    channel-after device desk event mine (λ (c : Channel). Turned device old (recording_or old c)) (turned-same device old g.rate g.safe) (turn_turns device desk.handed (grouping_at device desk mine) event old none g)
    (λ fd way settings is same free. subst (λ (w : Way). Turned device old (recording_or old (channel_begun w settings))) same (turned-begun device old settings (subst (Fits device pool) is fits).1))
    (λ fd group is member. turned-asked device (SetTrigger both_bits) old g)
  where
    mine : Held
    mine = channel_named Record slot

    old : RecordBook
    old = record_at device desk slot

-- ---- stories

-- such an event leaves recordings valid
turned-story : (device : DeviceSeen) (pool : Pool) (story : Story) (event : Event) → AllTurned device story.desk (after device story.desk event).desk → (after device story.desk event).desk.handed ≡ story.desk.handed
    → ((slot : ℕ) → going_on device pool event (record_at device story.desk slot) (record_at device (after device story.desk event).desk slot) (story.recordings slot) ≡ story.recordings slot)
    → RecordingsAreValid device pool story → RecordingsAreValid device pool (told device pool story event)
turned-story device pool story event turned handed same v slot =
    let old : RecordBook = record_at device story.desk slot in
    let new : RecordBook = record_at device (after device story.desk event).desk slot in
    subst (λ (n : ℕ). RecordingIsValid device pool n new ((told device pool story event).recordings slot)) (sym handed)
    (valid-turned device pool story.desk event old new (story.recordings slot) (same slot) (turned slot (record { rate = (v slot).settings; safe = (v slot).safe })) (v slot))

-- nothing was read where the counts stay
read-same : (device : DeviceSeen) (pool : Pool) (handed fd count : ℕ) (book : RecordBook) (recording : Recording) → RecordingIsValid device pool handed book recording
    → RecordingIsValid device pool handed book (cond (starts_recording book book) (recording_from handed) (handing book book recording))
read-same device pool handed fd count book recording v = record {
  settings = v.settings;
  safe = v.safe;
  running = λ running.
      let r = v.running running in
      let none : book.read - book.read ≡ 0 = omega arith in
      rw running (record {
        kept = r.kept;
        got = ap (λ n. recording.got ++ take n (drop book.read recording.kept)) none ∙ append-nil recording.got ∙ r.got;
        place = r.place;
        whole = r.whole;
      });
}

-- a read by its own channel
read-own : (device : DeviceSeen) (pool : Pool) (handed fd count : ℕ) (empty : Bool) (book : RecordBook) (recording : Recording) → RecordingIsValid device pool handed book recording
    → let new : RecordBook = (cond {A = Turn RecordBook} empty (record { book = book; reply = Err Again }) (record { book = record book { read = book.read + min count (record_fill_of book) }; reply = Ok (Got (min count (record_fill_of book))) })).book in
    RecordIsSafe (record_rate_at device book) new
    → RecordingIsValid device pool handed new (cond (starts_recording book new) (recording_from handed) (handing book new recording))
read-own device pool handed fd count true book recording v safe = read-same device pool handed fd count book recording v
read-own device pool handed fd count false book recording v safe = record {
  settings = v.settings;
  safe = safe;
  running = λ running. rw running (read_at device pool handed fd count book recording v running);
}

-- the record book of a slot after a read, and its recording
read_desk : (device : DeviceSeen) (pool : Pool) (desk : Desk) (fd count slot : ℕ) (recording : Recording) → RecordingIsValid device pool desk.handed (record_at device desk slot) recording
    → let new : RecordBook = record_at device (after device desk (Read fd count)).desk slot in
    RecordingIsValid device pool desk.handed new (recording_after device pool desk (Read fd count) (record_at device desk slot) new recording)
read_desk device pool desk fd count slot recording v =
    let old : RecordBook = record_at device desk slot in
    channel-after device desk (Read fd count) (channel_named Record slot)
    (λ (c : Channel). RecordingIsValid device pool desk.handed (recording_or old c) (recording_after device pool desk (Read fd count) old (recording_or old c) recording))
    (read-same device pool desk.handed fd count old recording v)
    (read-own device pool desk.handed fd count (nat_lt 0 count && eqb (record_fill_of old) 0) old recording v (record-safe-read (record_rate_at device old) count old v.safe))
    (λ at way settings is same free. cc) (λ at group is member. cc)

captured_at : (device : DeviceSeen) (pool : Pool) (handed n : ℕ) (state : RunState) (book : RecordBook) (recording : Recording) → book.state ≡ state → IsDevice device → IsCaptureIn (device_settings device).layout pool
    → RecordingIsValid device pool handed book recording
    → let new : RecordBook = records.captured_in (record_rate_at device book) state n book in
    RecordingIsValid device pool (handed + n) new (cond (not (is_running state) && is_running new.state) (recording_from handed) (cond (is_running state) (recordings.keeps device pool n book recording) recording))
captured_at device pool handed n Free book recording e d is v =
    record { settings = v.settings; safe = v.safe; running = λ running. absurd (let clash : false ≡ true = sym (ap is_running e) ∙ running in cc) }
captured_at device pool handed n Setup book recording e d is v =
    record { settings = v.settings; safe = v.safe; running = λ running. absurd (let clash : false ≡ true = sym (ap is_running e) ∙ running in cc) }
captured_at device pool handed n Running book recording e d is v =
    let went : records.captured (record_rate_at device book) n book ≡ captures (record_rate_at device book) n book = ap (λ (s : RunState). records.captured_in (record_rate_at device book) s n book) e in
    record {
      settings = v.settings;
      safe = subst (RecordIsSafe (record_rate_at device book)) went (record-safe-captured (record_rate_at device book) n book v.safe);
      running = λ running. recorded-interrupt device pool handed n book recording d v.settings is v.safe.read (v.running (ap is_running e));
    }

captured_slot : (device : DeviceSeen) (pool : Pool) (desk : Desk) (n slot : ℕ) (recording : Recording) → IsDevice device → IsCaptureIn (device_settings device).layout pool
    → RecordingIsValid device pool desk.handed (record_at device desk slot) recording
    → let new : RecordBook = record_at device (interrupt_turn device desk n).desk slot in
    RecordingIsValid device pool (desk.handed + n) new (recording_after device pool desk (Intr n) (record_at device desk slot) new recording)
captured_slot device pool desk n slot recording d is v =
    let old : RecordBook = record_at device desk slot in
    subst (λ (new : RecordBook). RecordingIsValid device pool (desk.handed + n) new (recording_after device pool desk (Intr n) old new recording)) (sym (record_at-capturing device desk n slot))
    (captured_at device pool desk.handed n old.state old recording refl d is v)

-- an event that takes no frames gives none to the device
handed_same : (device : DeviceSeen) (desk : Desk) (event : Event) → frames_taken event ≡ 0 → (after device desk event).desk.handed ≡ desk.handed
handed_same device desk event none = let taken = handed-taken device desk event in omega arith

turned-told : (device : DeviceSeen) (pool : Pool) (story : Story) (event : Event) → Fits device pool event → GetsNone event → frames_taken event ≡ 0
    → ((slot : ℕ) → going_on device pool event (record_at device story.desk slot) (record_at device (after device story.desk event).desk slot) (story.recordings slot) ≡ story.recordings slot)
    → RecordingsAreValid device pool story → RecordingsAreValid device pool (told device pool story event)
turned-told device pool story event fits none no_frames same v = turned-story device pool story event (all-turned device pool story.desk event fits none) (handed_same device story.desk event no_frames) same v

-- each recording stays valid through an event that fits, where what is recorded has the device's layout
pub recordings-told : (device : DeviceSeen) (pool : Pool) (story : Story) (event : Event) → IsDevice device → IsCaptureIn (device_settings device).layout pool → Fits device pool event
    → RecordingsAreValid device pool story → RecordingsAreValid device pool (told device pool story event)
recordings-told device pool story (Open fd way settings) d is fits v = turned-told device pool story (Open fd way settings) fits tt refl (λ slot. refl) v
recordings-told device pool story (Write fd source at count) d is fits v = turned-told device pool story (Write fd source at count) fits tt refl (λ slot. refl) v
recordings-told device pool story (Poke fd offset at count) d is fits v = turned-told device pool story (Poke fd offset at count) fits tt refl (λ slot. refl) v
recordings-told device pool story (Read fd count) d is fits v = λ slot.
    let new : RecordBook = record_at device (after device story.desk (Read fd count)).desk slot in
    subst (λ (n : ℕ). RecordingIsValid device pool n new ((told device pool story (Read fd count)).recordings slot)) (sym (handed_same device story.desk (Read fd count) refl))
    (read_desk device pool story.desk fd count slot (story.recordings slot) (v slot))
recordings-told device pool story (Ioctl fd request) d is fits v = turned-told device pool story (Ioctl fd request) fits tt refl (λ slot. refl) v
recordings-told device pool story (Join fd group) d is fits v = turned-told device pool story (Join fd group) fits tt refl (λ slot. refl) v
recordings-told device pool story (StartGroup fd group) d is fits v = turned-told device pool story (StartGroup fd group) fits tt refl (λ slot. refl) v
recordings-told device pool story (Close fd) d is fits v = turned-told device pool story (Close fd) fits tt refl (λ slot. refl) v
recordings-told device pool story (Mixer request) d is fits v = turned-told device pool story (Mixer request) fits tt refl (λ slot. refl) v
recordings-told device pool story (Intr n) d is fits v = λ slot. captured_slot device pool story.desk n slot (story.recordings slot) d is (v slot)

-- before the first event
pub recordings-start : (device : DeviceSeen) (pool : Pool) → IsDevice device → RecordingsAreValid device pool (story_at_start device)
recordings-start device pool d slot =
    subst (λ (book : RecordBook). RecordingIsValid device pool 0 book (recording_from 0)) (sym (get_or-same (record_slots device) slot (record_unopened device))) (record {
      settings = d.rate;
      safe = safe-unstarted (record_rate_at device (record_unopened device)) (record_unopened device) (record { captured_none = refl; kept_none = refl; read_none = refl }) refl refl usual-fragments;
      running = λ running. cc;
    })

-- and through events that fit
recordings_told_all : (device : DeviceSeen) (pool : Pool) (story : Story) (events : List Event) → IsDevice device → IsCaptureIn (device_settings device).layout pool → All (Fits device pool) events
    → RecordingsAreValid device pool story → RecordingsAreValid device pool (told_all device pool story events)
recordings_told_all device pool story [] d is fit v = v
recordings_told_all device pool story (event ∷ events) d is fit v =
    let fits = All-head (Fits device pool) event events fit in
    recordings_told_all device pool (told device pool story event) events d is (All-tail (Fits device pool) event events fit)
    (recordings-told device pool story event d is fits v)

-- what reads got of a recording that lost nothing is the front of all that is recorded
pub reads-front : (device : DeviceSeen) (pool : Pool) (events : List Event) (slot : ℕ) → IsDevice device → IsCaptureIn (device_settings device).layout pool → All (Fits device pool) events
    → let story : Story = story_of device pool events in
    let book : RecordBook = record_at device story.desk slot in
    let recording : Recording = story.recordings slot in
    is_running book.state ≡ true → recording.whole ≡ true
    → recording.got ≡ take book.read (recorded_bytes device book.opening.settings (recorded_frames pool recording.start) 0 book.given)
reads-front device pool events slot d is fit running whole =
    let v = recordings_told_all device pool (story_at_start device) events d is fit (recordings-start device pool d) slot in
    let r = v.running running in
    let story : Story = story_of device pool events in
    r.got ∙ ap (take (record_at device story.desk slot).read) (r.whole whole)

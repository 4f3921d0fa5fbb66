-- Channels that record and stand for a story stand for it with one event more.
use Rattle.std.proofs.Common.{◌≡◌, ℕ, ◌<◌, ℤ, Bool, true, false, List, [], ◌++◌, length, get_or, min, take, drop, Option, Some, None, Result, refl, sym, ap, ◌∙◌, subst, arith}
use Rattle.std.specs.Prelude.{All}
use Rattle.std.proofs.lemmas.List.{append-nil, get_or-map, take_all}
use Rattle.pcm_engine.specs.Types.{Answer, Device, Errno, Event, Filters, Held, Kept, Kind, Pool, RecordBook, Way}
use Rattle.pcm_oss.specs.declared.event.Event.TheVariants.{Read, Intr}
use Rattle.pcm_oss.specs.declared.event.Way.TheVariants.{Play, Record, Map}
use Rattle.pcm_oss.specs.Replies.{Reply}
use Rattle.pcm_wave.specs.Pools.{IsCaptureIn, captured_frames}
use Rattle.pcm_wave.proofs.Captures.{captured_frames-channels}
use Rattle.pcm_format.specs.declared.layout.Layout.{Layout}
use Rattle.pcm_format.specs.Frames.{Frame}
use Rattle.pcm_format.specs.Layouts.{channels_of}
use Rattle.pcm_format.proofs.Streams.{channels_of-above}
use Rattle.pcm_feeder.specs.Streams.{frames_of, interleaved}
use Rattle.pcm_feeder.proofs.Frames.{frames_of-interleaved}
use Rattle.pcm_desk.specs.Device.{DeviceSeen, IsDevice, device_settings, device_filters, seen}
use Rattle.pcm_desk.specs.RunStates.{is_running}
use Rattle.pcm_desk.specs.RecordBooks.{keeping, record_fill_of}
use Rattle.pcm_desk.specs.Channels.{by_way, capturing, record_rate_at}
use Rattle.pcm_desk.specs.Desk.{Desk, after, held_by, map_at, play_at, record_at, record_unopened}
use Rattle.pcm_desk.specs.Events.{Fits, frames_taken}
use Rattle.pcm_desk.specs.Channels as channels
use Rattle.pcm_sound.specs.Given.{recorded_bytes}
use Rattle.pcm_sound.specs.Recordings.{Recording, read_bytes, recording_after}
use Rattle.pcm_sound.specs.StoryReplies.{bytes_got, bytes_to}
use Rattle.pcm_sound.specs.Story.{Story, told}
use Rattle.pcm_sound.specs.Valid.{RecordingIsValid, RecordingsAreValid, StoryIsValid}
use Rattle.pcm_sound.proofs.Following.{bytes_in, frames_of_book, recording-follows, recording-hears}
use Rattle.pcm_desk.proofs.Slots.{record_at-capturing}
use Rattle.pcm_sound.proofs.Recorded.{idle-unstarted, recordings-told}
use Rattle.pcm_record.specs.declared.channel.RecordChannelOf.{RecordChannelOf}
use Rattle.pcm_record.specs.Channels.{IsRecordReady, RecordMoves, RecordStands}
use Rattle.pcm_vchan.specs.Captures.{Captures}
use Rattle.pcm_bus.specs.Slots.{Each}
use Rattle.pcm_vchan.specs.Slots.{AllHoldUnread, RecordAreOf, record_books_of}
use Rattle.pcm_vchan.proofs.Channels.{record-ready-moved}
use Rattle.pcm_vchan.specs.declared.parent.ParentOf.{ParentOf}
use Rattle.pcm_vchan.specs.Parents.{record_channels}
use Rattle.pcm_engine.specs.declared.descriptors.Descriptors.{Descriptors}
use Rattle.pcm_engine.specs.Applied.{Applied}
use Rattle.pcm_engine.specs.Desks.{desk_with}
use Rattle.pcm_engine.specs.Stands.{RecordersStand, bytes_kept, frames_captured}
use Rattle.pcm_engine.specs.Brought.{samples_brought}
use Rattle.pcm_engine.specs.Steps.{RecordersMove, bytes_answered, bytes_read, channel_read}

-- the record book of a slot is that of its channel
pub record_at-books : {B : Type 0} (device : DeviceSeen) (desk : Desk) (recorders : List (RecordChannelOf B)) (slot : ℕ) (other : RecordChannelOf B) → desk.recording ≡ record_books_of recorders → slot < length recorders → record_at device desk slot ≡ (get_or recorders slot other).book
record_at-books {B = B} device desk recorders slot other recording there =
    ap (λ (books : List RecordBook). get_or books slot (record_unopened device)) recording ∙ get_or-map (λ (c : RecordChannelOf B). c.book) recorders slot other (record_unopened device) there

-- a channel of the device stands, once it moved and captured nothing, for the first of what it stood for
stands-less : {B : Type 0} (kind : B → Kind) (kept : B → Kept) (device : DeviceSeen) (old new : RecordChannelOf B) (bytes : List ℕ) (frames : List Frame) → RecordMoves kind kept (device_filters device) [] 0 old new
    → RecordStands kept (device_filters device) old old.book bytes frames → RecordStands kept (device_filters device) new new.book (take new.book.kept bytes) (take new.book.captured frames)
stands-less kind kept device old new bytes frames m s =
    let stood = m.stands bytes frames s in
    subst (λ (b : List ℕ). RecordStands kept (device_filters device) new new.book (take new.book.kept b) (take new.book.captured frames)) (append-nil bytes)
    (subst (λ (f : List Frame). RecordStands kept (device_filters device) new new.book (take new.book.kept (bytes ++ [])) (take new.book.captured f)) (append-nil frames) stood)

-- a channel stands for its slot of a story
abbrev StandsAt : {B : Type 0} → (B → Kept) → DeviceSeen → Pool → Story → ℕ → RecordChannelOf B → Type 0
StandsAt kept device pool story slot channel = RecordStands kept (device_filters device) channel (record_at device story.desk slot) (bytes_kept device story slot) (frames_captured device pool story slot)

-- what an event leaves of a channel stands for its slot of the story after that event
abbrev Told : {B : Type 0} → (B → Kept) → DeviceSeen → Pool → Story → Event → ℕ → RecordChannelOf B → RecordChannelOf B → Type 0
Told kept device pool story event slot old new =
    record_at device story.desk slot ≡ old.book → record_at device (told device pool story event).desk slot ≡ new.book
    → StandsAt kept device pool story slot old → StandsAt kept device pool (told device pool story event) slot new

-- an event that takes no frames
still : {B : Type 0} (kind : B → Kind) (kept : B → Kept) (device : DeviceSeen) (pool : Pool) (story : Story) (event : Event) (slot : ℕ) (old new : RecordChannelOf B) → Fits device pool event → frames_taken event ≡ 0
    → RecordingsAreValid device pool story → RecordMoves kind kept (device_filters device) [] 0 old new → Told kept device pool story event slot old new
still {B} kind kept device pool story event slot old new fits none v m = λ was is stood.
    let Stands : RecordBook → List ℕ → List Frame → Type 0 = RecordStands kept (device_filters device) new in
    let bytes : List ℕ = bytes_kept device story slot in
    let frames : List Frame = frames_captured device pool story slot in
    let now : RecordBook = record_at device (told device pool story event).desk slot in
    let stands = stands-less kind kept device old new bytes frames m (subst (λ (b : RecordBook). RecordStands kept (device_filters device) old b bytes frames) was stood) in
    let stands_now : Stands now (take now.kept bytes) (take now.captured frames) = subst (λ (b : RecordBook). Stands b (take b.kept bytes) (take b.captured frames)) (sym is) stands in
    let f = recording-follows device pool story event slot fits none v in
    subst (λ (b : List ℕ). Stands now b (frames_captured device pool (told device pool story event) slot)) (sym f.bytes) (subst (Stands now (take now.kept bytes)) (sym f.frames) stands_now)

-- a channel that captured frames of its device stands for these too, and for what it kept of them
stands-captured : {B : Type 0} (kind : B → Kind) (kept : B → Kept) (device : DeviceSeen) (n : ℕ) (more : List Frame) (before now : RecordChannelOf B) (old new : RecordBook) (bytes : List ℕ) (frames : List Frame)
    → seen (device_filters device) before.path.device ≡ device → frames_of (channels_of (device_settings device).layout) (interleaved more) ≡ more → old ≡ before.book → now.book ≡ new
    → RecordMoves kind kept (device_filters device) (frames_of (channels_of (device_settings device).layout) (interleaved more)) (keeping (record_rate_at device before.book) n before.book) before now
    → RecordStands kept (device_filters device) before old bytes frames
    → RecordStands kept (device_filters device) now new (take new.kept (bytes ++ recorded_bytes device old.opening.settings (frames ++ more) old.given (keeping (record_rate_at device old) n old))) (take new.captured (frames ++ more))
stands-captured kind kept device n more before now old new bytes frames device_is input old_is new_is m s =
    let k : ℕ = keeping (record_rate_at device before.book) n before.book in
    let stood = subst (λ (b : RecordBook). RecordStands kept (device_filters device) before b bytes frames) old_is s in
    let stands = m.stands bytes frames stood in
    let with_input = subst (λ (x : List Frame). RecordStands kept (device_filters device) now now.book (take now.book.kept (bytes ++ recorded_bytes (seen (device_filters device) before.path.device) before.book.opening.settings (frames ++ x) before.book.given k)) (take now.book.captured (frames ++ x))) input stands in
    let on_device = subst (λ (v : DeviceSeen). RecordStands kept (device_filters device) now now.book (take now.book.kept (bytes ++ recorded_bytes v before.book.opening.settings (frames ++ more) before.book.given k)) (take now.book.captured (frames ++ more))) device_is with_input in
    let of_book = subst (λ (b : RecordBook). RecordStands kept (device_filters device) now now.book (take now.book.kept (bytes ++ recorded_bytes device b.opening.settings (frames ++ more) b.given (keeping (record_rate_at device b) n b))) (take now.book.captured (frames ++ more))) (sym old_is) on_device in
    subst (λ (b : RecordBook). RecordStands kept (device_filters device) now b (take b.kept (bytes ++ recorded_bytes device old.opening.settings (frames ++ more) old.given (keeping (record_rate_at device old) n old))) (take b.captured (frames ++ more))) new_is of_book

-- an interrupt
heard : {B : Type 0} (kind : B → Kind) (kept : B → Kept) (device : DeviceSeen) (pool : Pool) (story : Story) (n slot : ℕ) (old new : RecordChannelOf B) → IsDevice device → IsCaptureIn (device_settings device).layout pool
    → seen (device_filters device) old.path.device ≡ device → RecordingsAreValid device pool story
    → Captures kind kept device n (interleaved (captured_frames (device_settings device).layout pool story.desk.handed n)) old new → Told kept device pool story (Intr n) slot old new
heard {B} kind kept device pool story n slot old new d captures device_is v c = λ was is stood.
    let Stands : RecordBook → List ℕ → List Frame → Type 0 = RecordStands kept (device_filters device) new in
    let layout : Layout = (device_settings device).layout in
    let more : List Frame = captured_frames layout pool story.desk.handed n in
    let before : RecordBook = record_at device story.desk slot in
    let now : RecordBook = capturing device n before in
    let bytes : List ℕ = bytes_kept device story slot in
    let frames : List Frame = frames_captured device pool story slot in
    let went : record_at device (told device pool story (Intr n)).desk slot ≡ now = record_at-capturing device story.desk n slot in
    let input = frames_of-interleaved (channels_of layout) more (channels_of-above layout) (captured_frames-channels layout pool story.desk.handed n captures) in
    let stands = stands-captured kind kept device n more old new before now bytes frames device_is input was (sym is ∙ went) c.moves stood in
    let h = recording-hears device pool story n slot d v in
    let after_is : RecordBook → Recording = λ b. recording_after device pool story.desk (Intr n) before b (story.recordings slot) in
    subst (λ (b : RecordBook). Stands b (bytes_in b (after_is b)) (frames_of_book device pool b (after_is b))) (sym went)
    (subst (λ (all : List ℕ). Stands now all (frames_of_book device pool now (after_is now))) (sym h.bytes)
    (subst (Stands now (take now.kept (bytes ++ recorded_bytes device before.opening.settings (frames ++ more) before.given (keeping (record_rate_at device before) n before)))) (sym h.frames) stands))

-- each event
recorder_told : {B : Type 0} (kind : B → Kind) (kept : B → Kept) (device : DeviceSeen) (pool : Pool) (story : Story) (event : Event) (before now : List (RecordChannelOf B)) (slot : ℕ) (other : RecordChannelOf B)
    → IsDevice device → IsCaptureIn (device_settings device).layout pool → Fits device pool event → seen (device_filters device) (get_or before slot other).path.device ≡ device → slot < length before → RecordingsAreValid device pool story
    → RecordersMove kind kept device (samples_brought (device_settings device).layout pool story.desk.handed event) event before now → Told kept device pool story event slot (get_or before slot other) (get_or now slot other)
recorder_told kind kept device pool story (Intr n) before now slot other d captures fits own there v moves = heard kind kept device pool story n slot (get_or before slot other) (get_or now slot other) d captures own v (moves slot other there)
recorder_told kind kept device pool story event before now slot other d captures fits own there v moves = still kind kept device pool story event slot (get_or before slot other) (get_or now slot other) fits refl v (moves slot other there)

-- What stood for a story stands, one step on, for the story with one event more.
pub recorders-told : {B : Type 0} (kind : B → Kind) (kept : B → Kept) (filters : Filters) (pool : Pool) (story : Story) (event : Event) (bytes : List ℕ) (old : ParentOf B) (before : Descriptors) (new : ParentOf B) (left : Descriptors) (reply : Reply)
    → let device : DeviceSeen = seen filters old.device in
    Applied kind kept filters event bytes (samples_brought (device_settings device).layout pool old.handed event) old before new left reply → IsCaptureIn (device_settings device).layout pool → Fits device pool event
    → RecordAreOf old.device (record_channels old) → desk_with old before ≡ story.desk → StoryIsValid device story → RecordersStand kept device pool (record_channels old) story
    → RecordersStand kept device pool (record_channels new) (told device pool story event)
recorders-told kind kept filters pool story event bytes old before new left reply a captures fits own is v s =
    let device : DeviceSeen = seen filters old.device in
    let turned : desk_with new left ≡ (told device pool story event).desk = a.rules.desk ∙ ap (λ (d : Desk). (after device d event).desk) is in
    let moves = subst (λ (d : Desk). RecordersMove kind kept device (samples_brought (device_settings device).layout pool d.handed event) event (record_channels old) (record_channels new)) is a.recorders in
    record {
      slots = λ slot other within.
          let same = a.recorders_slots in
          let there : slot < length (record_channels old) = omega arith in
          recorder_told kind kept device pool story event (record_channels old) (record_channels new) slot other v.limits captures fits (ap (λ (d : Device). seen filters d) (own slot other there)) there s.valid moves
          (record_at-books device story.desk (record_channels old) slot other (ap (λ (d : Desk). d.recording) (sym is)) there)
          (record_at-books device (told device pool story event).desk (record_channels new) slot other (ap (λ (d : Desk). d.recording) (sym turned)) within) (s.slots slot other there);
      valid = recordings-told device pool story event v.limits captures fits s.valid;
    }

-- ---- what is ready, and what reads get

-- channels that were ready are ready after an event
pub recorders-ready : {B : Type 0} (kind : B → Kind) (kept : B → Kept) (device : DeviceSeen) (samples : List ℤ) (event : Event) (before now : List (RecordChannelOf B)) → length now ≡ length before
    → RecordersMove kind kept device samples event before now → All (IsRecordReady kind kept (device_filters device)) before → All (IsRecordReady kind kept (device_filters device)) now
recorders-ready {B = B} kind kept device samples event before now same moves ready = at event moves
  where
    plain : Each (RecordMoves kind kept (device_filters device) [] 0) before now → All (IsRecordReady kind kept (device_filters device)) now
    plain each = λ slot other within. record-ready-moved kind kept (device_filters device) [] 0 (get_or before slot other) (get_or now slot other) (each slot other (omega arith)) (ready slot other (omega arith))

    at : (e : Event) → RecordersMove kind kept device samples e before now → All (IsRecordReady kind kept (device_filters device)) now
    at (Intr n) each = λ slot other within.
        record-ready-moved kind kept (device_filters device) _ _ (get_or before slot other) (get_or now slot other) (each slot other (omega arith)).moves (ready slot other (omega arith))
    at event each = plain each

-- of each channel those bytes wait in the ring that its book and its recording tell
pub all-unread : {B : Type 0} (kept : B → Kept) (device : DeviceSeen) (pool : Pool) (story : Story) (recorders : List (RecordChannelOf B)) → story.desk.recording ≡ record_books_of recorders → RecordersStand kept device pool recorders story
    → AllHoldUnread recorders (bytes_kept device story)
all-unread kept device pool story recorders are s = λ slot other there.
    let its = subst (λ (b : RecordBook). RecordStands kept (device_filters device) (get_or recorders slot other) b (bytes_kept device story slot) (frames_captured device pool story slot)) (record_at-books device story.desk recorders slot other are there) (s.slots slot other there) in
    record { count = its.count; ring_is = its.ring_is }

-- the bytes that a book counts are all that a read may get
read_counted : (device : DeviceSeen) (pool : Pool) (handed count : ℕ) (running : Bool) (book : RecordBook) (recording : Recording) → is_running book.state ≡ running → RecordingIsValid device pool handed book recording
    → take (min count (record_fill_of book)) (drop book.read (take book.kept recording.kept)) ≡ read_bytes count book recording
read_counted device pool handed count true book recording e v =
    let r = v.running e in
    ap (λ (bytes : List ℕ). take (min count (record_fill_of book)) (drop book.read bytes)) (take_all book.kept recording.kept (omega (arith, r.kept)))
read_counted device pool handed count false book recording e v =
    let none = idle-unstarted book.state book e v.safe.order in
    let empty : min count (record_fill_of book) ≡ 0 = omega (arith, none.kept_none) in
    rw empty refl

-- the bytes that come with the reply to an event are those of the story
pub answered-told : (device : DeviceSeen) (pool : Pool) (story : Story) (event : Event) → RecordingsAreValid device pool story → bytes_answered device story.desk (bytes_kept device story) event ≡ bytes_to device story event
answered-told device pool story (Read fd count) v = held_at (held_by story.desk fd)
  where
    way_at : (way : Way) (slot : ℕ)
        → channel_read count (by_way way (channels.Playing (play_at device story.desk slot)) (channels.Recording (record_at device story.desk slot)) (channels.Mapped (map_at device story.desk slot))) (bytes_kept device story slot)
        ≡ by_way way [] (read_bytes count (record_at device story.desk slot) (story.recordings slot)) []
    way_at Play slot = refl
    way_at Map slot = refl
    way_at Record slot = read_counted device pool story.desk.handed count (is_running (record_at device story.desk slot).state) (record_at device story.desk slot) (story.recordings slot) refl (v slot)

    held_at : (held : Option Held) → bytes_read device story.desk (bytes_kept device story) count held ≡ bytes_got device story count held
    held_at None = refl
    held_at (Some held) = way_at held.way held.slot
answered-told device pool story event v = refl

-- a reply that has this result and these bytes
pub reply-made : (reply : Reply) (result : Result Answer Errno) (bytes : List ℕ) → reply.result ≡ result → reply.bytes ≡ bytes → reply ≡ record { result = result; bytes = bytes }
reply-made reply result bytes p q = λ i. record { result = p i; bytes = q i }

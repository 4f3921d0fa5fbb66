-- A story knows a pool by the bytes of its events and the frames that are recorded.
use Rattle.std.proofs.Common.{◌≡◌, ℕ, ◌+◌, ◌-◌, ◌<◌, ◌≤◌, cond, List, [], ◌∷◌, ◌++◌, length, take, drop, Option, refl, sym, ap, ◌∙◌, subst, arith, length-append}
use Rattle.std.specs.Prelude.{All, not, ◌&&◌, slice_get}
use Rattle.std.proofs.lemmas.List.{drop-append-le, length-drop, take-append-le, take-take}
use Rattle.std.proofs.lemmas.List.Elements.{All-cons, All-head, All-nil, All-tail}
use Rattle.pcm_format.specs.Frames.{Frame}
use Rattle.pcm_oss.specs.declared.event.Event.{Event}
use Rattle.pcm_oss.specs.declared.event.Event.TheVariants.{Open, Write, Poke, Read, Ioctl, Join, StartGroup, Close, Mixer, Intr}
use Rattle.pcm_wave.specs.declared.pool.Pool.{Pool}
use Rattle.pcm_wave.specs.declared.pool.Source.{Source}
use Rattle.pcm_wave.specs.declared.pool.Source.TheVariants.{Inline, File}
use Rattle.pcm_wave.specs.Pools.{HasBytes, body_in, bytes_at, capture_frames, file_at, frames_in, source_bytes}
use Rattle.pcm_desk.specs.declared.play_book.PlayBook.{PlayBook}
use Rattle.pcm_desk.specs.declared.record_book.RecordBook.{RecordBook}
use Rattle.pcm_desk.specs.declared.map_book.MapBook.{MapBook}
use Rattle.pcm_desk.specs.Device.{DeviceSeen}
use Rattle.pcm_desk.specs.RunStates.{is_running}
use Rattle.pcm_desk.specs.RecordBooks.{keeping}
use Rattle.pcm_desk.specs.Channels.{record_rate_at}
use Rattle.pcm_desk.specs.Desk.{Desk, after, held_by, map_at, play_at, record_at}
use Rattle.pcm_desk.specs.Events.{Fits}
use Rattle.pcm_sound.specs.Areas.{holds_map, poked, silences, silent_area, written_by}
use Rattle.pcm_sound.specs.Gains.{faders_after, gains_after, map_loudness, play_loudness}
use Rattle.pcm_sound.specs.MapRuns.{map_runs_after}
use Rattle.pcm_sound.specs.Given.{recorded_bytes}
use Rattle.pcm_sound.specs.Pools.{AreAlike, BringsAlike, IsLonger}
use Rattle.pcm_sound.specs.Recordings.{Recording, going_on, loses, recording_from, starts_recording}
use Rattle.pcm_sound.specs.Runs.{Run, marking, runs_after, taking}
use Rattle.pcm_sound.specs.Story.{Story, story_at_start, story_of, told, told_all}
use Rattle.pcm_sound.specs.Valid.{RecordingsAreValid}
use Rattle.pcm_sound.proofs.Slots.{WritesSome}
use Rattle.pcm_sound.proofs.Stories.{writes-some}

-- ---- one event

-- the first of bytes that are the same
bytes_alike : (one other : Pool) (source : Source) (at count less : ℕ) → bytes_at other source at count ≡ bytes_at one source at count → less ≤ count → bytes_at other source at less ≡ bytes_at one source at less
bytes_alike one other source at count less same within =
    sym (take-take less count (drop at (source_bytes other source)) within) ∙ ap (take less) same ∙ take-take less count (drop at (source_bytes one source)) within

-- a book grows by no more than a write has
grows_within : (count : ℕ) (old new : PlayBook) → WritesSome count old new → new.written - old.written ≤ count
grows_within count old new w = let within = w.within in let written = w.accepts.written in omega arith

-- the runs of a slot
runs_alike : (device : DeviceSeen) (one other : Pool) (desk : Desk) (event : Event) (slot : ℕ) (runs : List Run) → BringsAlike one other event
    → let old : PlayBook = play_at device desk slot in let new : PlayBook = play_at device (after device desk event).desk slot in
    runs_after device other desk event old new runs ≡ runs_after device one desk event old new runs
runs_alike device one other desk (Open fd way settings) slot runs same = refl
runs_alike device one other desk (Write fd source at count) slot runs same =
    let old : PlayBook = play_at device desk slot in
    let new : PlayBook = play_at device (after device desk (Write fd source at count)).desk slot in
    ap (λ (bytes : List ℕ). marking desk.mixed (Write fd source at count) old new (taking bytes old runs))
    (bytes_alike one other source at count (new.written - old.written) same (grows_within count old new (writes-some device desk fd source at count slot)))
runs_alike device one other desk (Poke fd offset at count) slot runs same = refl
runs_alike device one other desk (Read fd count) slot runs same = refl
runs_alike device one other desk (Ioctl fd request) slot runs same = refl
runs_alike device one other desk (Join fd group) slot runs same = refl
runs_alike device one other desk (StartGroup fd group) slot runs same = refl
runs_alike device one other desk (Close fd) slot runs same = refl
runs_alike device one other desk (Mixer request) slot runs same = refl
runs_alike device one other desk (Intr n) slot runs same = refl

-- what is written into the area of a slot
written_alike : (one other : Pool) (desk : Desk) (event : Event) (slot : ℕ) (area : List ℕ) → BringsAlike one other event → written_by other desk event slot area ≡ written_by one desk event slot area
written_alike one other desk (Open fd way settings) slot area same = refl
written_alike one other desk (Write fd source at count) slot area same = refl
written_alike one other desk (Poke fd offset at count) slot area same = ap (λ (bytes : List ℕ). cond (holds_map (held_by desk fd) slot) (poked offset bytes area) area) same
written_alike one other desk (Read fd count) slot area same = refl
written_alike one other desk (Ioctl fd request) slot area same = refl
written_alike one other desk (Join fd group) slot area same = refl
written_alike one other desk (StartGroup fd group) slot area same = refl
written_alike one other desk (Close fd) slot area same = refl
written_alike one other desk (Mixer request) slot area same = refl
written_alike one other desk (Intr n) slot area same = refl

-- the recording of a slot
pub going-alike : (device : DeviceSeen) (one other : Pool) (event : Event) (old new : RecordBook) (recording : Recording) → capture_frames other ≡ capture_frames one → going_on device other event old new recording ≡ going_on device one event old new recording
going-alike device one other (Open fd way settings) old new recording same = refl
going-alike device one other (Write fd source at count) old new recording same = refl
going-alike device one other (Poke fd offset at count) old new recording same = refl
going-alike device one other (Read fd count) old new recording same = refl
going-alike device one other (Ioctl fd request) old new recording same = refl
going-alike device one other (Join fd group) old new recording same = refl
going-alike device one other (StartGroup fd group) old new recording same = refl
going-alike device one other (Close fd) old new recording same = refl
going-alike device one other (Mixer request) old new recording same = refl
going-alike device one other (Intr n) old new recording same =
    ap (λ (captured : List Frame). cond (is_running old.state) (record recording {
      kept = recording.kept ++ recorded_bytes device old.opening.settings (drop recording.start captured) old.given (keeping (record_rate_at device old) n old);
      whole = recording.whole && not (loses device n old);
    }) recording) same

-- the story with one event more
told-alike : (device : DeviceSeen) (one other : Pool) (story : Story) (event : Event) → BringsAlike one other event → capture_frames other ≡ capture_frames one → told device other story event ≡ told device one story event
told-alike device one other story event brings captured = λ i. record {
  desk = (after device story.desk event).desk;
  runs = λ slot. runs_alike device one other story.desk event slot (story.runs slot) brings i;
  gains = λ slot. gains_after story.desk.mixed (play_loudness (play_at device story.desk slot)) (play_loudness (play_at device (after device story.desk event).desk slot)) (story.gains slot);
  map_runs = λ slot. map_runs_after device story.desk event (map_at device story.desk slot) (map_at device (after device story.desk event).desk slot) (story.areas slot) (story.map_runs slot);
  map_gains = λ slot. gains_after story.desk.mixed (map_loudness (map_at device story.desk slot)) (map_loudness (map_at device (after device story.desk event).desk slot)) (story.map_gains slot);
  areas = λ slot. (
      let old : MapBook = map_at device story.desk slot in
      let new : MapBook = map_at device (after device story.desk event).desk slot in
      cond (silences old new) (silent_area new.opening) (written_alike one other story.desk event slot (story.areas slot) brings i));
  recordings = λ slot. (
      let old : RecordBook = record_at device story.desk slot in
      let new : RecordBook = record_at device (after device story.desk event).desk slot in
      cond (starts_recording old new) (recording_from story.desk.handed) (going-alike device one other event old new (story.recordings slot) captured i));
  faders = faders_after story.desk.mixed story.desk.mixer (after device story.desk event).desk.mixer story.faders;
}

-- ---- a list of events

told_all_alike : (device : DeviceSeen) (one other : Pool) (story : Story) (events : List Event) → All (BringsAlike one other) events → capture_frames other ≡ capture_frames one → told_all device other story events ≡ told_all device one story events
told_all_alike device one other story [] brings captured = refl
told_all_alike device one other story (event ∷ events) brings captured =
    ap (λ (s : Story). told_all device other s events) (told-alike device one other story event (All-head (BringsAlike one other) event events brings) captured)
    ∙ told_all_alike device one other (told device one story event) events (All-tail (BringsAlike one other) event events brings) captured

-- Pools that are alike give one story.
pub story-alike : (device : DeviceSeen) (one other : Pool) (events : List Event) → AreAlike one other events → story_of device other events ≡ story_of device one events
story-alike device one other events alike = told_all_alike device one other (story_at_start device) events alike.bytes alike.captured

-- so recordings that are valid by one are so by the other
pub recordings-alike : (device : DeviceSeen) (one other : Pool) (story : Story) → capture_frames other ≡ capture_frames one → RecordingsAreValid device one story → RecordingsAreValid device other story
recordings-alike device one other story captured v slot =
    let book : RecordBook = record_at device story.desk slot in
    let recording : Recording = story.recordings slot in
    record {
      settings = (v slot).settings;
      safe = (v slot).safe;
      running = λ running. (
          let r = (v slot).running running in
          record {
            kept = r.kept;
            got = r.got;
            place = r.place;
            whole = λ whole. r.whole whole ∙ ap (λ (list : List Frame). recorded_bytes device book.opening.settings (drop recording.start list) 0 book.given) (sym captured);
          });
    }

-- ---- a longer pool

-- the bytes that one has are in the longer one, at the same place
longer_bytes : (one other : Pool) (source : Source) (at count : ℕ) → IsLonger one other → HasBytes one source at count → bytes_at other source at count ≡ bytes_at one source at count
longer_bytes one other Inline at count l has =
    ap (λ (bytes : List ℕ). take count (drop at bytes)) l.inline ∙ front at count one.inline_bytes l.more has.within
  where
    front : (at count : ℕ) (bytes more : List ℕ) → at + count ≤ length bytes → take count (drop at (bytes ++ more)) ≡ take count (drop at bytes)
    front at count bytes more h =
        ap (take count) (drop-append-le at bytes more (omega arith)) ∙ take-append-le count (drop at bytes) more (omega (arith, length-drop at bytes))
longer_bytes one other (File place) at count l has = ap (λ files. take count (drop at (body_in (slice_get files place)))) l.files_same

longer_brings : (device : DeviceSeen) (one other : Pool) (event : Event) → IsLonger one other → Fits device one event → BringsAlike one other event
longer_brings device one other (Open fd way settings) l fits = tt
longer_brings device one other (Write fd source at count) l fits = longer_bytes one other source at count l fits.2
longer_brings device one other (Poke fd offset at count) l fits = longer_bytes one other Inline at count l fits.2
longer_brings device one other (Read fd count) l fits = tt
longer_brings device one other (Ioctl fd request) l fits = tt
longer_brings device one other (Join fd group) l fits = tt
longer_brings device one other (StartGroup fd group) l fits = tt
longer_brings device one other (Close fd) l fits = tt
longer_brings device one other (Mixer request) l fits = tt
longer_brings device one other (Intr n) l fits = tt

longer_all : (device : DeviceSeen) (one other : Pool) (events : List Event) → IsLonger one other → All (Fits device one) events → All (BringsAlike one other) events
longer_all device one other [] l fit = All-nil (BringsAlike one other)
longer_all device one other (event ∷ events) l fit =
    All-cons (BringsAlike one other) event events (longer_brings device one other event l (All-head (Fits device one) event events fit))
    (longer_all device one other events l (All-tail (Fits device one) event events fit))

-- a longer pool is the same to all events whose bytes are in the shorter one
pub longer-alike : (device : DeviceSeen) (one other : Pool) (events : List Event) → IsLonger one other → All (Fits device one) events → AreAlike one other events
longer-alike device one other events l fit = record {
  bytes = longer_all device one other events l fit;
  captured = ap (λ files. frames_in (file_at files other.capture)) l.files_same ∙ ap (λ (at : Option ℕ). frames_in (file_at one.files at)) l.capture_same;
}

-- and its events fit with the longer one too
longer_has : (one other : Pool) (source : Source) (at count : ℕ) → IsLonger one other → HasBytes one source at count → HasBytes other source at count
longer_has one other Inline at count l has = record {
  has = tt;
  within = omega (arith, has.within, ap (λ (bytes : List ℕ). length bytes) l.inline, length-append one.inline_bytes l.more);
}
longer_has one other (File place) at count l has = record {
  has = subst (λ files. place < length files) (sym l.files_same) has.has;
  within = subst (λ files. at + count ≤ length (body_in (slice_get files place))) (sym l.files_same) has.within;
}

pub longer-fits : (device : DeviceSeen) (one other : Pool) (event : Event) → IsLonger one other → Fits device one event → Fits device other event
longer-fits device one other (Open fd way settings) l fits = fits
longer-fits device one other (Write fd source at count) l fits = (fits.0, fits.1, longer_has one other source at count l fits.2)
longer-fits device one other (Poke fd offset at count) l fits = (fits.0, fits.1, longer_has one other Inline at count l fits.2)
longer-fits device one other (Read fd count) l fits = fits
longer-fits device one other (Ioctl fd request) l fits = fits
longer-fits device one other (Join fd group) l fits = fits
longer-fits device one other (StartGroup fd group) l fits = fits
longer-fits device one other (Close fd) l fits = fits
longer-fits device one other (Mixer request) l fits = fits
longer-fits device one other (Intr n) l fits = fits

-- The story of a list of events: the desk, for each slot that is mixed its runs and its gains, for each mapped one its area, for each
-- that records its recording, and what the faders of the mixer device were set to.
use Rattle.std.specs.Prelude.{ℕ, ◌-◌, nat_lt, if◌then◌else◌, List, [], ◌∷◌}
use Rattle.pcm_oss.specs.declared.event.Event.{Event}
use Rattle.pcm_wave.specs.declared.pool.Pool.{Pool}
use Rattle.pcm_desk.specs.Device.{DeviceSeen, play_slots}
use Rattle.pcm_desk.specs.Desk.{Desk, after, desk_at_start, map_at, map_unopened, play_at, record_at}
use Rattle.pcm_sound.specs.Areas.{area_after, silent_area}
use Rattle.pcm_sound.specs.Gains.{Faders, GainSet, faders_after, faders_at_start, gains_after, map_loudness, play_loudness}
use Rattle.pcm_sound.specs.MapRuns.{map_runs_after}
use Rattle.pcm_sound.specs.Runs.{Run, runs_after}
use Rattle.pcm_sound.specs.Recordings.{Recording, recording_after, recording_from}

pub record Story : Type 0 where
  pub desk : Desk
  -- the runs of each slot that plays, the newest first
  pub runs : ℕ → List Run
  -- the gains that were set of each slot that plays, the newest first
  pub gains : ℕ → List GainSet
  -- the same of each mapped slot, and what stands in its area
  pub map_runs : ℕ → List Run
  pub map_gains : ℕ → List GainSet
  pub areas : ℕ → List ℕ
  -- the newest recording of each slot for recording
  pub recordings : ℕ → Recording
  pub faders : Faders

-- before the first event
abbrev pub story_at_start : DeviceSeen → Story
story_at_start device = record {
  desk = desk_at_start device;
  runs = λ slot. [];
  gains = λ slot. [];
  map_runs = λ slot. [];
  map_gains = λ slot. [];
  areas = λ slot. silent_area (map_unopened device).opening;
  recordings = λ slot. recording_from 0;
  faders = faders_at_start;
}

-- one event more, whose bytes are found in a pool
abbrev pub told : DeviceSeen → Pool → Story → Event → Story
told device pool story event =
    let new : Desk = (after device story.desk event).desk in
    record {
      desk = new;
      runs = λ slot. runs_after device pool story.desk event (play_at device story.desk slot) (play_at device new slot) (story.runs slot);
      gains = λ slot. gains_after story.desk.mixed (play_loudness (play_at device story.desk slot)) (play_loudness (play_at device new slot)) (story.gains slot);
      map_runs = λ slot. map_runs_after device story.desk event (map_at device story.desk slot) (map_at device new slot) (story.areas slot) (story.map_runs slot);
      map_gains = λ slot. gains_after story.desk.mixed (map_loudness (map_at device story.desk slot)) (map_loudness (map_at device new slot)) (story.map_gains slot);
      areas = λ slot. area_after pool story.desk event slot (map_at device story.desk slot) (map_at device new slot) (story.areas slot);
      recordings = λ slot. recording_after device pool story.desk event (record_at device story.desk slot) (record_at device new slot) (story.recordings slot);
      faders = faders_after story.desk.mixed story.desk.mixer new.mixer story.faders;
    }

-- a list of events
abbrev pub told_all : DeviceSeen → Pool → Story → List Event → Story
told_all device pool story [] = story
told_all device pool story (event ∷ events) = told_all device pool (told device pool story event) events

-- the story of a script
abbrev pub story_of : DeviceSeen → Pool → List Event → Story
story_of device pool events = told_all device pool (story_at_start device) events

-- ---- the slots that are mixed, by number: those that play, and after them those of mapped areas

-- what is so of a slot of the mix: of one that plays, or of a mapped one, by its place among these
abbrev pub by_number : {X : Type 0} → DeviceSeen → (ℕ → X) → (ℕ → X) → ℕ → X
by_number device play mapped slot = if nat_lt slot (play_slots device) then play slot else mapped (slot - play_slots device)

-- the runs of each, and the gains that were set
abbrev pub mixed_runs : DeviceSeen → Story → ℕ → List Run
mixed_runs device story = by_number device story.runs story.map_runs

abbrev pub mixed_gains : DeviceSeen → Story → ℕ → List GainSet
mixed_gains device story = by_number device story.gains story.map_gains

-- What holds of every story of events that fit: the newest run is what its book counts, the pieces of a run lie
-- within its stream and in the past and follow each other, and a recording is what its book counts.
use Rattle.std.specs.Prelude.{◌≡◌, ℕ, ◌+◌, ◌<◌, ◌≤◌, Bool, true, false, if◌then◌else◌, List, [], ◌∷◌, length, take, All}
use Rattle.pcm_format.specs.Frames.{whole_frames}
use Rattle.pcm_rate.specs.declared.rate.Rate.{Rate}
use Rattle.pcm_rate.specs.Rates.{can, len}
use Rattle.pcm_feeder.specs.Limits.{IsRate}
use Rattle.pcm_desk.specs.declared.play_book.PlayBook.{PlayBook}
use Rattle.pcm_desk.specs.Device.{DeviceSeen, IsDevice, mixed_for, play_rate_between}
use Rattle.pcm_desk.specs.PlayBooks.{is_draining, is_started}
use Rattle.pcm_desk.specs.PlaySafe.{PlayIsHere, PlayIsSafe}
use Rattle.pcm_desk.specs.declared.map_book.MapBook.{MapBook}
use Rattle.pcm_desk.specs.RunStates.{is_running}
use Rattle.pcm_desk.specs.MapBooks.{taken_of}
use Rattle.pcm_desk.specs.MapSafe.{MapIsSafe}
use Rattle.pcm_desk.specs.declared.record_book.RecordBook.{RecordBook}
use Rattle.pcm_desk.specs.RecordSafe.{RecordIsSafe}
use Rattle.pcm_desk.specs.Channels.{map_rate_at, play_rate_at, record_rate_at}
use Rattle.pcm_desk.specs.Desk.{desk_here, map_at, play_at, record_at}
use Rattle.pcm_wave.specs.declared.pool.Pool.{Pool}
use Rattle.pcm_mixdev.specs.Mixers.{master_gain, slot_gain}
use Rattle.pcm_sound.specs.Gains.{book_gain, last_gain, map_gain, master_gain_at, slot_gain_at}
use Rattle.pcm_sound.specs.Runs.{Piece, Run}
use Rattle.pcm_sound.specs.Given.{recorded_bytes}
use Rattle.pcm_sound.specs.Recordings.{Recording, recorded_frames}
use Rattle.pcm_sound.specs.Story.{Story}
use Rattle.pcm_sound.specs.Places.{MapIsPlaced, SlotIsPlaced}
use Rattle.pcm_sound.specs.Plain.{IsUnbroken}

-- how many frames of the mix `frames` frames of a run give: those that they allow, or all that they last for once no more comes
abbrev pub frames_given : Rate → Bool → ℕ → ℕ
frames_given rate drained frames = if drained then len rate frames else can rate frames

-- how many frames of the mix a run gives
abbrev pub given_in : DeviceSeen → Run → ℕ
given_in device run = frames_given (play_rate_between device run.settings) run.drained (whole_frames run.settings (length run.bytes))

-- the frames of a piece were mixed before this position, and are among the first `most` of its run
pub record PieceIsValid (mixed most : ℕ) (piece : Piece) : Type 0 where
  pub past : piece.position + piece.count ≤ mixed
  pub inside : piece.index + piece.count ≤ most

-- each piece of a run lies in the past and among the frames that the run gives
abbrev pub RunIsValid : DeviceSeen → ℕ → Run → Type 0
RunIsValid device mixed run = All (PieceIsValid mixed (given_in device run)) run.pieces

-- the rate of a run is within the limits
abbrev pub HasRate : Run → Type 0
HasRate run = IsRate run.settings.rate

-- the newest run has the bytes that its book counts, and more may come unless the book drains
abbrev pub IsNewest : PlayBook → List Run → Type 0
IsNewest book [] = ⊥
IsNewest book (run ∷ runs) =
    (run.settings ≡ book.opening.settings) × (length run.bytes ≡ book.written) × (run.drained ≡ is_draining book.state)

-- a slot's book and its runs, before a position
pub record SlotIsValid (device : DeviceSeen) (mixed : ℕ) (book : PlayBook) (runs : List Run) : Type 0 where
  pub settings : IsRate book.opening.settings.rate
  pub started : is_started book.state ≡ true → 0 < book.written
  pub newest : 0 < book.written → IsNewest book runs
  pub pieces : All (RunIsValid device mixed) runs
  pub own : All HasRate runs

-- the newest run of a mapped slot has all bytes that its book took, and isn't drained
abbrev pub MapIsNewest : MapBook → List Run → Type 0
MapIsNewest book [] = ⊥
MapIsNewest book (run ∷ runs) =
    (run.settings ≡ book.opening.settings) × (length run.bytes ≡ taken_of book) × (run.drained ≡ false)

-- a mapped slot's book and its runs, before a position; no piece of them is short
pub record MapIsValid (device : DeviceSeen) (mixed : ℕ) (book : MapBook) (runs : List Run) : Type 0 where
  pub settings : IsRate book.opening.settings.rate
  pub safe : MapIsSafe (map_rate_at device book) book
  pub newest : is_running book.state ≡ true → MapIsNewest book runs
  pub pieces : All (RunIsValid device mixed) runs
  pub own : All HasRate runs
  pub placed : MapIsPlaced device mixed book runs
  pub whole : All IsUnbroken runs

pub record StoryIsValid (device : DeviceSeen) (story : Story) : Type 0 where
  pub limits : IsDevice device
  pub slots : (slot : ℕ) → SlotIsValid device story.desk.mixed (play_at device story.desk slot) (story.runs slot)
  pub safe : (slot : ℕ) → PlayIsSafe (play_rate_at device (play_at device story.desk slot)) (play_at device story.desk slot)
  pub here : (slot : ℕ) → PlayIsHere (play_rate_at device (play_at device story.desk slot)) (desk_here device story.desk) (play_at device story.desk slot)
  -- the pieces of each run stand in their place
  pub placed : (slot : ℕ) → SlotIsPlaced device story.desk.mixed (play_at device story.desk slot) (story.runs slot)
  -- from now on each slot has the gain of its book's volume
  pub gains : (slot position : ℕ) → story.desk.mixed ≤ position → last_gain (story.gains slot) position ≡ book_gain (play_at device story.desk slot)
  -- so is each mapped slot, and its gain
  pub maps : (slot : ℕ) → MapIsValid device story.desk.mixed (map_at device story.desk slot) (story.map_runs slot)
  pub map_gains : (slot position : ℕ) → story.desk.mixed ≤ position → last_gain (story.map_gains slot) position ≡ map_gain (map_at device story.desk slot)
  -- so is each fader of the mixer device
  pub faders : (slot position : ℕ) → story.desk.mixed ≤ position → slot_gain_at story.faders slot position ≡ slot_gain story.desk.mixer slot
  pub master : (position : ℕ) → story.desk.mixed ≤ position → master_gain_at story.faders position ≡ master_gain story.desk.mixer
  -- just the frames are mixed that those of the device need
  pub mixed : story.desk.mixed ≡ mixed_for device story.desk.handed

-- a recording that has started is what its book counts: the bytes kept, those that were read, and the frames given to the device
-- since; where no interrupt lost a frame, it is all that came of what is recorded
pub record IsRecorded (device : DeviceSeen) (pool : Pool) (handed : ℕ) (book : RecordBook) (recording : Recording) : Type 0 where
  pub kept : length recording.kept ≡ book.kept
  pub got : recording.got ≡ take book.read recording.kept
  pub place : recording.start + book.captured ≡ handed
  pub whole : recording.whole ≡ true
      → recording.kept ≡ recorded_bytes device book.opening.settings (recorded_frames pool recording.start) 0 book.given

-- a slot's record book and its recording, once the device has been given `handed` frames
pub record RecordingIsValid (device : DeviceSeen) (pool : Pool) (handed : ℕ) (book : RecordBook) (recording : Recording) : Type 0 where
  pub settings : IsRate book.opening.settings.rate
  pub safe : RecordIsSafe (record_rate_at device book) book
  pub running : is_running book.state ≡ true → IsRecorded device pool handed book recording

-- each slot's recording is valid
abbrev pub RecordingsAreValid : DeviceSeen → Pool → Story → Type 0
RecordingsAreValid device pool story =
    (slot : ℕ) → RecordingIsValid device pool story.desk.handed (record_at device story.desk slot) (story.recordings slot)

-- A recording is what its channel kept of the captured frames, from its start on, and what reads got of it.
use Rattle.std.specs.Prelude.{ℕ, ◌-◌, Bool, true, not, ◌&&◌, nat_lt, min, if◌then◌else◌, List, [], ◌++◌, take, drop}
use Rattle.pcm_oss.specs.declared.event.Event.{Event}
use Rattle.pcm_oss.specs.declared.event.Event.TheVariants.{Read, Intr}
use Rattle.pcm_wave.specs.declared.pool.Pool.{Pool}
use Rattle.pcm_wave.specs.Pools.{capture_frames}
use Rattle.pcm_format.specs.Frames.{Frame}
use Rattle.pcm_desk.specs.declared.record_book.RecordBook.{RecordBook}
use Rattle.pcm_desk.specs.Device.{DeviceSeen}
use Rattle.pcm_desk.specs.RunStates.{is_running}
use Rattle.pcm_desk.specs.RecordBooks.{coming, keeping, record_fill_of}
use Rattle.pcm_desk.specs.Channels.{record_rate_at}
use Rattle.pcm_desk.specs.Desk.{Desk}
use Rattle.pcm_sound.specs.Given.{recorded_bytes}

pub record Recording : Type 0 where
  -- how many frames the device had been given when it started
  pub start : ℕ
  -- the bytes that were kept
  pub kept : List ℕ
  -- what all reads got, joined
  pub got : List ℕ
  -- whether no interrupt lost a frame
  pub whole : Bool

-- a recording starts
abbrev pub recording_from : ℕ → Recording
recording_from start = record { start = start; kept = []; got = []; whole = true }

-- what is recorded from a start on: the file's frames, with silence past the last
abbrev pub recorded_frames : Pool → ℕ → List Frame
recorded_frames pool start = drop start (capture_frames pool)

-- whether an interrupt of n frames loses some that come
abbrev pub loses : DeviceSeen → ℕ → RecordBook → Bool
loses device n book = nat_lt (keeping (record_rate_at device book) n book) (coming (record_rate_at device book) n book)

-- an interrupt of n frames keeps the first of those that come
abbrev pub keeps : DeviceSeen → Pool → ℕ → RecordBook → Recording → Recording
keeps device pool n book recording = record recording {
  kept = recording.kept ++ recorded_bytes device book.opening.settings (recorded_frames pool recording.start)
      book.given (keeping (record_rate_at device book) n book);
  whole = recording.whole && not (loses device n book);
}

-- an interrupt brings frames to a channel that has started
abbrev pub hearing : DeviceSeen → Pool → ℕ → RecordBook → Recording → Recording
hearing device pool n book recording = if is_running book.state then keeps device pool n book recording else recording

-- the bytes that a read of `count` bytes gets: the oldest that no read got
abbrev pub read_bytes : ℕ → RecordBook → Recording → List ℕ
read_bytes count book recording = take (min count (record_fill_of book)) (drop book.read recording.kept)

-- a read moves the book on by what it got
abbrev pub handing : RecordBook → RecordBook → Recording → Recording
handing old new recording = record recording { got = recording.got ++ take (new.read - old.read) (drop old.read recording.kept) }

-- a slot's recording after an event that starts none, from its book before and after
abbrev pub going_on : DeviceSeen → Pool → Event → RecordBook → RecordBook → Recording → Recording
going_on device pool (Read fd count) old new recording = handing old new recording
going_on device pool (Intr n) old new recording = hearing device pool n old recording
going_on device pool event old new recording = recording

-- a channel starts: it wasn't running before, and is now
abbrev pub starts_recording : RecordBook → RecordBook → Bool
starts_recording old new = not (is_running old.state) && is_running new.state

-- a slot's recording after an event at a desk
abbrev pub recording_after : DeviceSeen → Pool → Desk → Event → RecordBook → RecordBook → Recording → Recording
recording_after device pool desk event old new recording =
    if starts_recording old new then recording_from desk.handed else going_on device pool event old new recording

-- A run is what a client wrote from an empty ring to the end of its drain, and where its frames were mixed.
use Rattle.std.specs.Prelude.{ℕ, ◌+◌, ◌-◌, Bool, true, false, not, ◌&&◌, ◌||◌, nat_lt, nat_le, ◌==◌, if◌then◌else◌, List, [], ◌∷◌, ◌++◌, Option, Some, None, find}
use Rattle.pcm_format.specs.declared.settings.Settings.{Settings}
use Rattle.pcm_oss.specs.declared.event.Event.{Event}
use Rattle.pcm_oss.specs.declared.event.Event.TheVariants.{Write, Ioctl, Intr}
use Rattle.pcm_oss.specs.declared.request.Request.{Request}
use Rattle.pcm_oss.specs.declared.request.Request.TheVariants.{SetTrigger, Halt}
use Rattle.pcm_wave.specs.declared.pool.Pool.{Pool}
use Rattle.pcm_format.specs.Frames.{Frame, frames}
use Rattle.pcm_wave.specs.Pools.{bytes_at}
use Rattle.pcm_feeder.specs.declared.stage.Gain.{Gain}
use Rattle.pcm_desk.specs.declared.play_book.PlayBook.{PlayBook}
use Rattle.pcm_desk.specs.declared.play_book.PlayState.{PlayState}
use Rattle.pcm_desk.specs.declared.play_book.PlayState.TheVariants.{Running}
use Rattle.pcm_desk.specs.Device.{DeviceSeen}
use Rattle.pcm_desk.specs.PlayBooks.{giving, is_draining, is_started}
use Rattle.pcm_desk.specs.Triggers.{has_play_bit}
use Rattle.pcm_desk.specs.Channels.{mixed_by, play_rate_at}
use Rattle.pcm_desk.specs.Desk.{Desk}
use Rattle.pcm_sound.specs.Given.{given_frame}

-- what one interrupt took of a run: `count` frames from `index` on, mixed from `position` on, and how many were missing
pub record Piece : Type 0 where
  pub position : ℕ
  pub index : ℕ
  pub count : ℕ
  pub short : ℕ

pub record Run : Type 0 where
  pub settings : Settings
  -- all bytes accepted, however the writes cut them
  pub bytes : List ℕ
  -- how many frames were mixed when it started
  pub start : Option ℕ
  -- whether no more was to come
  pub drained : Bool
  -- how many frames were mixed when it was dropped
  pub dropped : Option ℕ
  -- the newest first
  pub pieces : List Piece

-- a run of a book that begins with these bytes
abbrev pub begun_run : PlayBook → List ℕ → Run
begun_run book bytes = record { settings = book.opening.settings; bytes = bytes; start = None; drained = false; dropped = None; pieces = [] }

-- Bytes go to the newest run of a slot. They begin a new one where nothing was written since the last drain.
abbrev pub taking : List ℕ → PlayBook → List Run → List Run
taking [] book runs = runs
taking (byte ∷ bytes) book [] = begun_run book (byte ∷ bytes) ∷ []
taking (byte ∷ bytes) book (run ∷ runs) =
    if book.written == 0 then begun_run book (byte ∷ bytes) ∷ run ∷ runs
    else record run { bytes = run.bytes ++ byte ∷ bytes } ∷ runs

-- the frames that an interrupt wanted of a started run and didn't get; a drain is never short
abbrev pub missing_in : DeviceSeen → PlayState → ℕ → PlayBook → ℕ
missing_in device Running n book = n - giving (play_rate_at device book) n book
missing_in device state n book = 0

-- the piece of an interrupt that mixes n frames
abbrev pub piece_of : DeviceSeen → ℕ → ℕ → PlayBook → Piece
piece_of device position n book = record {
  position = position;
  index = book.given;
  count = giving (play_rate_at device book) n book;
  short = missing_in device book.state n book;
}

-- An interrupt takes a piece of the newest run of a slot that has started. Where nothing is mixed there is no piece.
abbrev pub playing : DeviceSeen → ℕ → ℕ → PlayBook → List Run → List Run
playing device position n book [] = []
playing device position n book (run ∷ runs) =
    if is_started book.state && nat_lt 0 n then record run { pieces = piece_of device position n book ∷ run.pieces } ∷ runs
    else run ∷ runs

-- a slot starts: it hadn't started before, and has now
abbrev pub starts : PlayBook → PlayBook → Bool
starts old new = not (is_started old.state) && is_started new.state

-- a slot stops: it had started before, and isn't now
abbrev pub ends : PlayBook → PlayBook → Bool
ends old new = is_started old.state && not (is_started new.state)

-- whether a request drops what it ends: a halt does, and a trigger that is set off
abbrev pub asks_drop : Request → Bool
asks_drop (SetTrigger bits) = not (has_play_bit bits)
asks_drop Halt = true
asks_drop request = false

-- whether an event drops what it ends; what else ends a run is its drain
abbrev pub drops : Event → Bool
drops (Ioctl fd request) = asks_drop request
drops event = false

-- how an event marks a run: where it starts, whether no more comes, and where it is dropped
abbrev pub marked : ℕ → Event → PlayBook → PlayBook → Run → Run
marked position event old new run = record run {
  start = if starts old new then Some position else run.start;
  drained = run.drained || is_draining new.state || ends old new && not (drops event);
  dropped = if ends old new && drops event then Some position else run.dropped;
}

-- an event marks the newest run of a slot
abbrev pub marking : ℕ → Event → PlayBook → PlayBook → List Run → List Run
marking position event old new [] = []
marking position event old new (run ∷ runs) = marked position event old new run ∷ runs

-- The bytes and the pieces of a slot's runs after an event: what was written is what the book grew by.
abbrev pub carrying : DeviceSeen → Pool → Desk → Event → PlayBook → PlayBook → List Run → List Run
carrying device pool desk (Write fd source at count) old new runs = taking (bytes_at pool source at (new.written - old.written)) old runs
carrying device pool desk (Intr n) old new runs = playing device desk.mixed (mixed_by device desk.handed n) old runs
carrying device pool desk event old new runs = runs

-- the runs of a slot after an event at a desk, from its book before and after
abbrev pub runs_after : DeviceSeen → Pool → Desk → Event → PlayBook → PlayBook → List Run → List Run
runs_after device pool desk event old new runs = marking desk.mixed event old new (carrying device pool desk event old new runs)

-- the bytes of the newest run of a slot
abbrev pub newest_bytes : List Run → List ℕ
newest_bytes [] = []
newest_bytes (run ∷ runs) = run.bytes

-- the piece was mixed at this position
abbrev pub covers : ℕ → Piece → Bool
covers position piece = nat_le piece.position position && nat_lt position (piece.position + piece.count)

-- every whole frame that a run accepted
abbrev pub run_frames : Run → List Frame
run_frames run = frames run.settings run.bytes

-- what the frames of a run in these settings give at a position of one of its pieces
abbrev pub piece_frame : DeviceSeen → Gain → Settings → List Frame → ℕ → Option Piece → Option Frame
piece_frame device gain settings frames position None = None
piece_frame device gain settings frames position (Some piece) =
    Some (given_frame device settings frames (piece.index + (position - piece.position)) gain)

-- the first that is there
abbrev pub first_of : Option Frame → Option Frame → Option Frame
first_of None other = other
first_of (Some frame) other = Some frame

-- what the runs of a slot give at a position, with the gain there: a frame, or nothing
abbrev pub sounding : DeviceSeen → Gain → List Run → ℕ → Option Frame
sounding device gain [] position = None
sounding device gain (run ∷ runs) position =
    first_of (piece_frame device gain run.settings (run_frames run) position (find (covers position) run.pieces)) (sounding device gain runs position)

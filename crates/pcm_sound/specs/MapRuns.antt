-- A run of a mapped channel: what the device took of its area, from the start until it stopped. No piece of it is short.
use Rattle.std.specs.Prelude.{ℕ, ◌-◌, Bool, false, not, ◌&&◌, nat_lt, if◌then◌else◌, List, [], ◌∷◌, ◌++◌, Some, None}
use Rattle.pcm_oss.specs.declared.event.Event.{Event}
use Rattle.pcm_oss.specs.declared.event.Event.TheVariants.{Intr}
use Rattle.pcm_desk.specs.declared.map_book.MapBook.{MapBook}
use Rattle.pcm_desk.specs.Device.{DeviceSeen}
use Rattle.pcm_desk.specs.RunStates.{is_running}
use Rattle.pcm_desk.specs.MapBooks.{taken_of}
use Rattle.pcm_desk.specs.Channels.{map_mixing, mixed_by}
use Rattle.pcm_desk.specs.Desk.{Desk}
use Rattle.pcm_sound.specs.Areas.{area_bytes}
use Rattle.pcm_sound.specs.Runs.{Piece, Run}

-- a run of a book that starts where `position` frames were mixed; nothing was taken yet
abbrev pub mapped_run : ℕ → MapBook → Run
mapped_run position book = record { settings = book.opening.settings; bytes = []; start = Some position; drained = false; dropped = None; pieces = [] }

-- the bytes that an interrupt which mixes n frames takes of the area, as they stand then
abbrev pub area_taken : DeviceSeen → ℕ → MapBook → List ℕ → List ℕ
area_taken device n book area = area_bytes area (taken_of book) (taken_of (map_mixing device n book) - taken_of book)

-- the piece of an interrupt that mixes n frames: all of them
abbrev pub map_piece : ℕ → ℕ → MapBook → Piece
map_piece position n book = record { position = position; index = book.given; count = n; short = 0 }

-- a run after an interrupt
abbrev pub map_played : DeviceSeen → ℕ → ℕ → MapBook → List ℕ → Run → Run
map_played device position n book area run = record run {
  bytes = run.bytes ++ area_taken device n book area;
  pieces = map_piece position n book ∷ run.pieces;
}

-- An interrupt takes what the newest run of a slot needs that has started. Where nothing is mixed there is no piece.
abbrev pub map_playing : DeviceSeen → ℕ → ℕ → MapBook → List ℕ → List Run → List Run
map_playing device position n book area [] = []
map_playing device position n book area (run ∷ runs) =
    if is_running book.state && nat_lt 0 n then map_played device position n book area run ∷ runs else run ∷ runs

-- the newest run of a slot stops; it isn't drained
abbrev pub map_stopped : ℕ → List Run → List Run
map_stopped position [] = []
map_stopped position (run ∷ runs) = record run { dropped = Some position } ∷ runs

-- a slot starts: it wasn't running before, and is now
abbrev pub map_starts : MapBook → MapBook → Bool
map_starts old new = not (is_running old.state) && is_running new.state

-- a slot stops: it was running before, and isn't now
abbrev pub map_ends : MapBook → MapBook → Bool
map_ends old new = is_running old.state && not (is_running new.state)

-- a run begins where the book starts, and ends where it left Running
abbrev pub map_marking : ℕ → MapBook → MapBook → List Run → List Run
map_marking position old new runs =
    if map_starts old new then mapped_run position new ∷ runs
    else if map_ends old new then map_stopped position runs
    else runs

-- the bytes and the pieces of a slot's runs after an event
abbrev pub map_carrying : DeviceSeen → Desk → Event → MapBook → List ℕ → List Run → List Run
map_carrying device desk (Intr n) old area runs = map_playing device desk.mixed (mixed_by device desk.handed n) old area runs
map_carrying device desk event old area runs = runs

-- the runs of a slot after an event at a desk, from its book before and after, and from what stood in its area
abbrev pub map_runs_after : DeviceSeen → Desk → Event → MapBook → MapBook → List ℕ → List Run → List Run
map_runs_after device desk event old new area runs = map_marking desk.mixed old new (map_carrying device desk event old area runs)

-- Where the pieces of a run stand: they follow each other from its start on, and a run that is over ends after the last of them.
use Rattle.std.specs.Prelude.{◌≡◌, ℕ, ◌+◌, ◌<◌, ◌≤◌, Bool, true, false, List, [], ◌∷◌, All, Option, Some, None}
use Rattle.pcm_desk.specs.declared.play_book.PlayBook.{PlayBook}
use Rattle.pcm_desk.specs.declared.map_book.MapBook.{MapBook}
use Rattle.pcm_desk.specs.Device.{DeviceSeen}
use Rattle.pcm_desk.specs.PlayBooks.{is_started}
use Rattle.pcm_desk.specs.RunStates.{is_running}
use Rattle.pcm_sound.specs.Runs.{Piece, Run}
use Rattle.pcm_sound.specs.Plain.{IsUnbroken, lasting, run_end}

-- pieces, the newest first, that follow each other from a position on without a gap: `count` frames, each as far into its stream
-- as its position is past the first; pieces of no frame, which a run may get once it has given all, can be anywhere
abbrev pub FollowFrom : ℕ → ℕ → List Piece → Type 0
FollowFrom start count [] = count ≡ 0
FollowFrom start count (piece ∷ pieces) =
    (0 < piece.count → piece.position ≡ start + piece.index) × (count ≡ piece.index + piece.count) × FollowFrom start piece.index pieces

-- a run that is heard from its start on, as far as its pieces go, and no further at any later position
pub record IsPlayed (device : DeviceSeen) (mixed start : ℕ) (run : Run) : Type 0 where
  pub count : ℕ
  pub follow : FollowFrom start count run.pieces
  pub past : start + count ≤ mixed
  pub end : (until : ℕ) → mixed ≤ until → run_end device until start run ≡ start + count

-- a run that is over, by where it started
abbrev pub IsOverFrom : DeviceSeen → ℕ → Run → Option ℕ → Type 0
IsOverFrom device mixed run None = run.pieces ≡ []
IsOverFrom device mixed run (Some start) = ((until : ℕ) → run_end device until start run ≤ mixed) × (IsUnbroken run → IsPlayed device mixed start run)

-- a run that is over: nothing is heard of it if it never started, else it ends by what is mixed, and its pieces are heard as long as none is short
abbrev pub IsOver : DeviceSeen → ℕ → Run → Type 0
IsOver device mixed run = IsOverFrom device mixed run run.start

-- a run whose book hasn't started
pub record IsWaiting (run : Run) : Type 0 where
  pub start : run.start ≡ None
  pub pieces : run.pieces ≡ []

-- A run whose book has: its pieces have all that the book gave. They reach to what is mixed next, unless no more was to come and all
-- was given that the run lasts for.
pub record IsGoing (device : DeviceSeen) (mixed : ℕ) (book : PlayBook) (run : Run) : Type 0 where
  pub start : ℕ
  pub started : run.start ≡ Some start
  pub past : start + book.given ≤ mixed
  pub follow : IsUnbroken run → FollowFrom start book.given run.pieces
  pub next : IsUnbroken run → (run.drained ≡ true → book.given < lasting device run) → start + book.given ≡ mixed

-- a run that its book counts
pub record IsCounted (device : DeviceSeen) (mixed : ℕ) (book : PlayBook) (run : Run) : Type 0 where
  pub dropped : run.dropped ≡ None
  pub waits : is_started book.state ≡ false → IsWaiting run
  pub goes : is_started book.state ≡ true → IsGoing device mixed book run

-- the runs of a slot, of which the book counts the newest if `written` isn't 0; the others are over
abbrev pub ArePlaced : DeviceSeen → ℕ → PlayBook → ℕ → List Run → Type 0
ArePlaced device mixed book written [] = Unit {0}
ArePlaced device mixed book written (run ∷ runs) =
    All (IsOver device mixed) runs × (written ≡ 0 → IsOver device mixed run) × (0 < written → IsCounted device mixed book run)

-- where the runs of a slot stand, before a position
abbrev pub SlotIsPlaced : DeviceSeen → ℕ → PlayBook → List Run → Type 0
SlotIsPlaced device mixed book runs = ArePlaced device mixed book book.written runs

-- ---- mapped slots

-- the newest run of a mapped book that has started: its pieces have all that the book gave, and reach to what is mixed next
pub record IsGoingMap (mixed : ℕ) (book : MapBook) (run : Run) : Type 0 where
  pub start : ℕ
  pub started : run.start ≡ Some start
  pub dropped : run.dropped ≡ None
  pub follow : FollowFrom start book.given run.pieces
  pub next : start + book.given ≡ mixed

-- the runs of a mapped slot, of which the newest goes on while its book runs; all others are over
abbrev pub MapArePlaced : DeviceSeen → ℕ → MapBook → Bool → List Run → Type 0
MapArePlaced device mixed book running [] = Unit {0}
MapArePlaced device mixed book running (run ∷ runs) =
    All (IsOver device mixed) runs × (running ≡ false → IsOver device mixed run) × (running ≡ true → IsGoingMap mixed book run)

-- where the runs of a mapped slot stand, before a position
abbrev pub MapIsPlaced : DeviceSeen → ℕ → MapBook → List Run → Type 0
MapIsPlaced device mixed book runs = MapArePlaced device mixed book (is_running book.state) runs

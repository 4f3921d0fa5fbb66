-- What the events of a script leave as it is played: of each its bytes, and then its line.
use Rattle.std.specs.Prelude.{◌≡◌, ℕ, ◌+◌, ◌<◌, List, ◌++◌, length}
use Rattle.pcm_outside.specs.Files.{Appends, FailsToAppend, OnlyAppends}
use Rattle.pcm_outside.specs.Sink.{FailsToPut, OnlyPuts, Puts}
use Rattle.pcm_inputs.specs.Outside.{Outside}
use Rattle.pcm_replay.specs.Playback.{Playback, bytes_until, lines_until}

-- what one event gives after `done` others: the bytes that it hands over, and its line
pub record IsNext (playback : Playback) (done : ℕ) (bytes line : List ℕ) : Type 0 where
  pub there : done < length playback.events
  pub bytes_are : bytes_until playback (done + 1) ≡ bytes_until playback done ++ bytes
  pub line_is : lines_until playback (done + 1) ≡ lines_until playback done ++ line

-- a file was appended to and lines were put, with nothing else done
pub record OnlyAdds (before after : Outside) : Type 0 where
  pub files : OnlyAppends before.files after.files
  pub sink : OnlyPuts before.sink after.sink

-- bytes were appended, and then a line was put
pub record WritesTurn (bytes line : List ℕ) (before after : Outside) : Type 0 where
  pub appended : Appends before.files after.files bytes
  pub put : Puts before.sink after.sink line

-- where that was cut short: in the bytes, and nothing was put, or in the line, once all bytes were there
pub data CutsTurn (bytes line : List ℕ) (before after : Outside) : Type 0 where
  TurnInBytes : FailsToAppend before.files after.files bytes → after.sink ≡ before.sink → CutsTurn bytes line before after
  TurnInLine : Appends before.files after.files bytes → FailsToPut before.sink after.sink line → CutsTurn bytes line before after

-- the next event left its bytes and its line
pub record WritesNext (playback : Playback) (done : ℕ) (before after : Outside) : Type 0 where
  pub bytes : List ℕ
  pub line : List ℕ
  pub next : IsNext playback done bytes line
  pub writes : WritesTurn bytes line before after

-- what it was to leave was cut short
pub record CutsNext (playback : Playback) (done : ℕ) (before after : Outside) : Type 0 where
  pub bytes : List ℕ
  pub line : List ℕ
  pub next : IsNext playback done bytes line
  pub cuts : CutsTurn bytes line before after

-- the first events left their bytes and their lines
pub record WritesFirst (playback : Playback) (done : ℕ) (before after : Outside) : Type 0 where
  pub only : OnlyAdds before after
  pub appended : Appends before.files after.files (bytes_until playback done)
  pub put : Puts before.sink after.sink (lines_until playback done)

-- some events left all that they were to leave, and the next one was cut short
pub record CutsEvents (playback : Playback) (before after : Outside) : Type 0 where
  pub done : ℕ
  pub between : Outside
  pub first : WritesFirst playback done before between
  pub only : OnlyAdds between after
  pub next : CutsNext playback done between after

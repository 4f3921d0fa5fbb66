-- What a call that was accepted leaves where it is cut short.
use Rattle.std.specs.Prelude.{ℕ, List, ◌++◌}
use Rattle.pcm_outside.specs.Counts.{Rose}
use Rattle.pcm_outside.specs.Files.{IsPrefixOf}
use Rattle.pcm_outside.specs.Sink.{Puts, PutsMore}
use Rattle.pcm_verdict.specs.Outputs.{header_in, output_of}
use Rattle.pcm_verdict.specs.Verdict.{Accepted, Runs, Checks, Converts, Soaks}
use Rattle.pcm_inputs.specs.Outside.{Outside}
use Rattle.pcm_replay.specs.Playback.{Playback, bytes_until, lines_until, playback_of}
use Rattle.pcm_replay.specs.Turns.{IsNext}
use Rattle.pcm_convert_command.specs.Written.{CutAtAppend, CutAtCreate, CutsOutput, HasWritten, WritesWhole}

-- where a run was cut short: after `done` events, in what the next one gives, of which a part was written
pub record CutPlace (playback : Playback) : Type 0 where
  pub done : ℕ
  pub bytes : List ℕ
  pub line : List ℕ
  pub next : IsNext playback done bytes line
  pub part : List ℕ

-- After the header the file has the bytes of some events and a part of the next one's; the lines of these events were put,
-- and nothing after them.
pub record CutInBytes (name head : List ℕ) (playback : Playback) (before after : Outside) : Type 0 where
  pub rose : Rose before.files.write_faults after.files.write_faults
  pub place : CutPlace playback
  pub front : IsPrefixOf place.part place.bytes
  pub file : HasWritten name (head ++ (bytes_until playback place.done ++ place.part)) before.files after.files
  pub put : Puts before.sink after.sink (lines_until playback place.done)

-- The file has the next one's bytes too, whole, and a part of its line was put.
pub record CutInLine (name head : List ℕ) (playback : Playback) (before after : Outside) : Type 0 where
  pub rose : Rose before.sink.faults after.sink.faults
  pub place : CutPlace playback
  pub front : IsPrefixOf place.part place.line
  pub written : WritesWhole (record { name = name; bytes = head ++ (bytes_until playback place.done ++ place.bytes) }) before.files after.files
  pub put : PutsMore before.sink after.sink (lines_until playback place.done ++ place.part)

-- Where a run was cut short, whose file has a name and a header: as the file was created, in the header, and with nothing put;
-- or in what one of its events was to leave.
pub data CutsRun (name head : List ℕ) (playback : Playback) (before after : Outside) : Type 0 where
  RunAtCreate : CutAtCreate (record { name = name; bytes = head }) before after → CutsRun name head playback before after
  RunInHeader : CutAtAppend (record { name = name; bytes = head }) before after → CutsRun name head playback before after
  RunInBytes : CutInBytes name head playback before after → CutsRun name head playback before after
  RunInLine : CutInLine name head playback before after → CutsRun name head playback before after

-- where a call was cut short that was accepted
abbrev pub CutsCall : Accepted → Outside → Outside → Type 0
CutsCall (Runs out inputs) before after = CutsRun out (header_in inputs) (playback_of inputs) before after
CutsCall (Checks inputs) before after = CutsOutput (output_of (Checks inputs)) before after
CutsCall (Converts out conversion) before after = CutsOutput (output_of (Converts out conversion)) before after
CutsCall (Soaks n) before after = CutsOutput (output_of (Soaks n)) before after

-- How the events of lines are collected: where their bytes stand, and what limits a script has.
use Rattle.std.specs.Prelude.{ℕ, ◌+◌, ◌*◌, Bool, ◌&&◌, nat_le, nat_lt, if◌then◌else◌, List, [], ◌∷◌, ◌++◌, length, Option, Some, None, Result, Ok, Err}
use Rattle.pcm_oss.specs.declared.event.Event.{Event}
use Rattle.pcm_oss.specs.declared.event.Event.TheVariants as events
use Rattle.pcm_wave.specs.declared.pool.Source.TheVariants.{Inline}
use Rattle.pcm_wave.specs.DataFiles.{DataFileSeen}
use Rattle.pcm_desk.specs.declared.limits.TheConstants.{DEVICE_BYTES, EVENTS}
use Rattle.pcm_desk.specs.Device.{DeviceSeen, device_frame_bytes}
use Rattle.pcm_desk.specs.Events.{frames_taken}
use Rattle.pcm_script.specs.declared.fault.ScriptKind.{ScriptKind}
use Rattle.pcm_script.specs.declared.fault.ScriptKind.TheVariants.{Long}
use Rattle.pcm_script.specs.declared.line_event.LineEvent.{LineEvent}
use Rattle.pcm_script.specs.declared.line_event.LineEvent.TheVariants.{Write, Poke, Whole}
use Rattle.pcm_script.specs.declared.script.Script.{Script}
use Rattle.pcm_script.specs.Commands.{line_event}
use Rattle.pcm_script.specs.Words.{words_of}

-- the bytes that a line names
abbrev pub own_bytes : LineEvent → List ℕ
own_bytes (Write fd bytes) = bytes
own_bytes (Poke fd offset bytes) = bytes
own_bytes (Whole event) = []

-- the event of a line whose own bytes stand at a place
abbrev pub event_at : ℕ → LineEvent → Event
event_at place (Write fd bytes) = events.Write fd Inline place (length bytes)
event_at place (Poke fd offset bytes) = events.Poke fd offset place (length bytes)
event_at place (Whole event) = event

-- the frames that a line takes out of the device's ring
abbrev pub frames_asked : LineEvent → ℕ
frames_asked line = frames_taken (event_at 0 line)

-- whether a script has room for one event more, which takes `frames` frames
abbrev pub has_room : DeviceSeen → Script → ℕ → Bool
has_room device script frames =
    nat_lt (length script.events) EVENTS && nat_le ((script.device_frames + frames) * device_frame_bytes device) DEVICE_BYTES

-- a script with one event more, whose bytes stand after those of the events before it
abbrev pub script_with : Script → LineEvent → Script
script_with script line = record {
  events = script.events ++ event_at (length script.inline_bytes) line ∷ [];
  inline_bytes = script.inline_bytes ++ own_bytes line;
  device_frames = script.device_frames + frames_asked line;
}

-- the script with the event of a line, if it has room for it
abbrev pub with_event : DeviceSeen → Script → LineEvent → Result Script ScriptKind
with_event device script line = if has_room device script (frames_asked line) then Ok (script_with script line) else Err Long

-- the script with what a line was judged to ask for
abbrev pub with_line : DeviceSeen → Script → Result (Option LineEvent) ScriptKind → Result Script ScriptKind
with_line device script (Ok None) = Ok script
with_line device script (Ok (Some line)) = with_event device script line
with_line device script (Err kind) = Err kind

-- the script with what a line of a text asks for
abbrev pub with_text : DeviceSeen → List DataFileSeen → Script → List ℕ → Result Script ScriptKind
with_text device files script text = with_line device script (line_event device files (words_of text))

-- A script's text: each line is judged by itself, and then all are collected, up to the first that is refused.
use Rattle.std.specs.Prelude.{ℕ, ◌+◌, ◌*◌, nat_lt, if◌then◌else◌, List, [], ◌∷◌, length, map, Option, None, Result, Ok, Err, All}
use Rattle.pcm_wave.specs.declared.pool.Pool.{Pool}
use Rattle.pcm_wave.specs.DataFiles.{DataFileSeen}
use Rattle.pcm_desk.specs.Device.{DeviceSeen, device_frame_bytes}
use Rattle.pcm_desk.specs.Events.{Fits}
use Rattle.pcm_script.specs.declared.fault.ScriptKind.{ScriptKind}
use Rattle.pcm_script.specs.declared.fault.ScriptKind.TheVariants.{Long}
use Rattle.pcm_script.specs.declared.fault.Refusal.{Refusal}
use Rattle.pcm_script.specs.declared.limits.TheConstants.{TEXT_BYTES}
use Rattle.pcm_script.specs.declared.line_event.LineEvent.{LineEvent}
use Rattle.pcm_script.specs.declared.script.Script.{Script}
use Rattle.pcm_script.specs.Steps.{◌>>=◌}
use Rattle.pcm_script.specs.Words.{lines_of, words_of}
use Rattle.pcm_script.specs.Commands.{line_event}
use Rattle.pcm_script.specs.Collecting.{with_line}

-- a script without events
abbrev pub empty_script : Script
empty_script = record { events = []; inline_bytes = []; device_frames = 0 }

-- where the bytes of a script's events are found: in its own lines, and in data files, of which it records none
abbrev pub pool_of : List DataFileSeen → Script → Pool
pool_of files script = record { files = files; capture = None; inline_bytes = script.inline_bytes }

-- each event fits the device, and names bytes that are there
abbrev pub AllFit : DeviceSeen → List DataFileSeen → Script → Type 0
AllFit device files script = All (Fits device (pool_of files script)) script.events

-- the bytes that the device takes
abbrev pub bytes_taken : DeviceSeen → Script → ℕ
bytes_taken device script = script.device_frames * device_frame_bytes device

-- what the lines of a text ask for, each judged by itself
abbrev pub lines_read : DeviceSeen → List DataFileSeen → List (List ℕ) → List (Result (Option LineEvent) ScriptKind)
lines_read device files lines = map (λ line. line_event device files (words_of line)) lines

-- what a line is refused for, with its number
abbrev pub at_line : ℕ → Result Script ScriptKind → Result Script Refusal
at_line number (Ok script) = Ok script
at_line number (Err kind) = Err (record { line = number; kind = kind })

-- A script with the lines from a number on, collected one after another. The first that is refused is the result.
unfoldable pub collected : DeviceSeen → Script → ℕ → List (Result (Option LineEvent) ScriptKind) → Result Script Refusal
collected device script number [] = Ok script
collected device script number (line ∷ lines) = do
  more ← at_line number (with_line device script line)
  collected device more (number + 1) lines

-- the script that a text is; too long a text is refused as line 0
unfoldable pub script_read : DeviceSeen → List DataFileSeen → List ℕ → Result Script Refusal
script_read device files text =
    if nat_lt TEXT_BYTES (length text) then Err (record { line = 0; kind = Long })
    else collected device empty_script 1 (lines_read device files (lines_of text))

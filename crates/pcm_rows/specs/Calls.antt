-- The call that the rows make, and the devices that they make it on.
use Prim.Native.String.{String}
use Rattle.std.specs.Prelude.{ℕ, ◌/◌, ◌%◌, zero, suc, List, [], ◌∷◌, ◌++◌, codes, flat_map, replicate, true, Option, Some, None, Result, Ok, Err, if◌then◌else◌}
use Rattle.std.specs.Str.{bytes_eq}
use Rattle.pcm_oss.specs.declared.event.Event.{Event}
use Rattle.pcm_oss.specs.declared.event.Event.TheVariants.{Open}
use Rattle.pcm_oss.specs.declared.event.Way.TheVariants.{Play}
use Rattle.pcm_format.specs.declared.settings.Settings.{Settings}
use Rattle.pcm_desk.specs.declared.play_book.PlayBook.{PlayBook}
use Rattle.pcm_desk.specs.declared.play_book.PlayState.{PlayState}
use Rattle.pcm_desk.specs.Desk.{desk_at_start, play_at}
use Rattle.pcm_desk.specs.Device.{DeviceSeen}
use Rattle.pcm_feeder.specs.Filters.{no_filters}
use Rattle.pcm_desk.specs.Events.{after_all}
use Rattle.pcm_desk.specs.Usual.{usual_device, usual_settings}
use Rattle.pcm_sound.specs.DeviceList.{device_text}
use Rattle.pcm_sound.specs.Plain.{Span, plain_text, spans_of}
use Rattle.pcm_sound.specs.Runs.{Piece, Run}
use Rattle.pcm_sound.specs.Story.{Story, story_of}
use Rattle.pcm_sound.specs.Gains.{GainSet}
use Rattle.pcm_feeder.specs.Layouts.{unity}
use Rattle.pcm_script.specs.declared.script.Script.{Script}
use Rattle.pcm_script.specs.Lines.{pool_of, script_read}
use Rattle.pcm_verdict.specs.Faults.{Fault, fault_line, status_of}
use Rattle.pcm_verdict.specs.Verdict.{or_bad_script}
use Rattle.pcm_verdict.specs.Transcript.{transcript}
use Rattle.pcm_rows.specs.Stages.{half_right}

-- a ring of four frames, where a row looks at single frames
abbrev pub small_device : DeviceSeen
small_device = record { device_settings = usual_settings; mix_settings = usual_settings; play_slots = 4; record_slots = 4; map_slots = 0; ring_frames = 4; block_frames = 2; device_quality = 1; device_filters = no_filters }

-- a device that mixes and hands over in these settings
abbrev pub device_in : Settings → DeviceSeen → DeviceSeen
device_in settings device = record device { device_settings = settings; mix_settings = settings }

-- an open with the settings of the device
abbrev pub opens : ℕ → Event
opens descriptor = Open descriptor Play usual_settings

-- lines, each with a line feed at its end
abbrev pub joined : List (List ℕ) → List ℕ
joined [] = []
joined (line ∷ lines) = line ++ 10 ∷ joined lines

-- bytes, repeated
abbrev pub times : ℕ → List ℕ → List ℕ
times zero bytes = []
times (suc count) bytes = bytes ++ times count bytes

-- numbers of 16 bits, each with its lowest byte first
abbrev pub little_endian : List ℕ → List ℕ
little_endian numbers = flat_map (λ number. number % 256 ∷ number / 256 ∷ []) numbers

-- frames of two channels of 16 bits, each with its number on both sides
abbrev pub stereo_bytes : List ℕ → List ℕ
stereo_bytes numbers = little_endian (flat_map (λ number. number ∷ number ∷ []) numbers)

-- what the ring of the usual device begins with
abbrev pub ring_of_silence : List ℕ
ring_of_silence = replicate 4096 0

-- files of which one alone is there
abbrev pub only : List ℕ → List ℕ → List ℕ → Option (List ℕ)
only there bytes other = if bytes_eq other there then Some bytes else None

-- the words after the program's name: run the script `s` into the file `o`
abbrev pub run_call : List (List ℕ)
run_call = codes "run" ∷ codes "s" ∷ codes "o" ∷ []

-- what a script's text is judged to be, for a device and without data files
abbrev pub judged : DeviceSeen → List ℕ → Result Script Fault
judged device bytes = or_bad_script (script_read device [] bytes)

-- and what a text is judged to be for the usual device
abbrev pub script_in : String → Result Script Fault
script_in text = judged usual_device (codes text)

-- a script that is accepted
abbrev pub accepted : Script → Result Script Fault
accepted script = Ok script

-- the line of a fault that a text has, and the status
abbrev pub line_for : Result Script Fault → List ℕ
line_for (Ok script) = []
line_for (Err fault) = fault_line fault

abbrev pub status_for : Result Script Fault → ℕ
status_for (Ok script) = 0
status_for (Err fault) = status_of fault

-- the bytes that a script makes
abbrev pub played : DeviceSeen → Script → List ℕ
played device script = device_text device (pool_of [] script) script.events

-- the bytes that a script makes where each of its runs is heard from its start to its end
abbrev pub plainly_played : DeviceSeen → Script → List ℕ
plainly_played device script = plain_text device (pool_of [] script) script.events

-- the lines that a script prints
abbrev pub printed : DeviceSeen → Script → List ℕ
printed device script = transcript device (pool_of [] script) script.events

-- the story of a script
abbrev pub story_after : DeviceSeen → Script → Story
story_after device script = story_of device (pool_of [] script) script.events

-- and on a ring of four frames
abbrev pub small_story : Script → Story
small_story script = story_after small_device script

-- the runs of a script's first client on a ring of four frames, the newest first
abbrev pub runs_in : Script → List Run
runs_in script = (small_story script).runs 0

-- its gains, the newest first
abbrev pub gains_in : Script → List GainSet
gains_in script = (small_story script).gains 0

-- its runs, as they are heard until a position
abbrev pub spans_in : Script → ℕ → List Span
spans_in script until = spans_of small_device until (runs_in script)

-- `count` frames of a run from an index on, mixed from a position on, with `short` missing
abbrev pub piece : ℕ → ℕ → ℕ → ℕ → Piece
piece position index count short = record { position = position; index = index; count = count; short = short }

-- a gain of one on both sides, set at a position
abbrev pub unity_from : ℕ → GainSet
unity_from position = record { position = position; gain = unity }

-- half as loud on the right side, from a position on
abbrev pub softer_from : ℕ → GainSet
softer_from position = record { position = position; gain = half_right }

-- a book with the counts of a run, and all else as an opening begins: four fragments of 4096 bytes, the trigger on, 100 on both sides
abbrev pub book_in : Settings → PlayState → ℕ → ℕ → ℕ → PlayBook
book_in settings state written eaten given = record {
  opening = record { settings = settings; fragments = record { log = 12; count = 4 }; trigger = true; told = 0 };
  volume = 0x6464;
  state = state;
  written = written;
  eaten = eaten;
  given = given;
  done = 0;
  underruns = 0;
  last = 0;
}

-- the same in the settings of the device
abbrev pub usual_book : PlayState → ℕ → ℕ → ℕ → PlayBook
usual_book state written eaten given = book_in usual_settings state written eaten given

-- a book whose ring is cut so
abbrev pub cut_in : ℕ → ℕ → PlayBook → PlayBook
cut_in log count book = record book { opening = record book.opening { fragments = record { log = log; count = count } } }

-- a book whose last answer was this position
abbrev pub told_at : ℕ → PlayBook → PlayBook
told_at position book = record book { opening = record book.opening { told = position } }

-- a book whose run gave its last frame before this position
abbrev pub last_at : ℕ → PlayBook → PlayBook
last_at last book = record book { last = last }

-- a book with other settings
abbrev pub set_to : Settings → PlayBook → PlayBook
set_to settings book = record book { opening = record book.opening { settings = settings } }

-- the first slot's book after events
abbrev pub book_after : DeviceSeen → List Event → PlayBook
book_after device events = play_at device (after_all device (desk_at_start device) events) 0

-- What each command asks of its words, one judgement after another from left to right, and the event that it gives.
use Rattle.std.specs.Prelude.{ℕ, ◌+◌, ◌-◌, Bool, nat_le, if◌then◌else◌, List, [], ◌∷◌, length, position, slice_get, Option, Some, None, Result, Ok, Err, codes}
use Rattle.std.specs.Result.{result_ok}
use Rattle.std.specs.Str.{bytes_eq}
use Rattle.hex.specs.Hex.{decode_of}
use Rattle.hex.specs.declared.error.FromHexError.{FromHexError}
use Rattle.pcm_format.specs.declared.format.Format.{Format}
use Rattle.pcm_format.specs.declared.layout.Layout.{Layout}
use Rattle.pcm_format.specs.declared.settings.TheConstants.{RATE_LEAST, RATE_MOST}
use Rattle.pcm_format.specs.Formats.{code_of, format_named}
use Rattle.pcm_format.specs.Layouts.{layout_of}
use Rattle.pcm_oss.specs.declared.event.Event.{Event}
use Rattle.pcm_oss.specs.declared.event.Event.TheVariants as events
use Rattle.pcm_oss.specs.declared.event.Way.{Way}
use Rattle.pcm_oss.specs.declared.mix_request.MixRequest.{MixRequest}
use Rattle.pcm_oss.specs.declared.mix_request.MixRequest.TheVariants as mixes
use Rattle.pcm_wave.specs.declared.pool.Source.TheVariants.{File}
use Rattle.pcm_wave.specs.DataFiles.{DataFileSeen}
use Rattle.pcm_wave.specs.Pools.{body_in}
use Rattle.pcm_desk.specs.declared.device.TheConstants.{OPENING}
use Rattle.pcm_desk.specs.declared.limits.TheConstants.{DESCRIPTORS, READ_BYTES, WRITE_BYTES}
use Rattle.pcm_desk.specs.Device.{DeviceSeen, block_frames, ring_frames}
use Rattle.pcm_script.specs.declared.fault.ScriptKind.{ScriptKind}
use Rattle.pcm_script.specs.declared.fault.ScriptKind.TheVariants.{Word, Count, Name, Hex, Range}
use Rattle.pcm_script.specs.declared.line_event.LineEvent.{LineEvent}
use Rattle.pcm_script.specs.declared.line_event.LineEvent.TheVariants.{Write, Poke, Whole}
use Rattle.pcm_script.specs.declared.names.Command.{Command}
use Rattle.pcm_script.specs.declared.names.Command.TheVariants as commands
use Rattle.pcm_script.specs.declared.names.Control.{Control}
use Rattle.pcm_script.specs.declared.names.Control.TheVariants.{Master, Slot, Mute}
use Rattle.pcm_script.specs.declared.request.Setter.{Setter}
use Rattle.pcm_script.specs.declared.request.Setter.TheVariants.{SetFmt}
use Rattle.pcm_script.specs.Steps.{◌>>=◌}
use Rattle.pcm_script.specs.Numbers.{number_in, number_within, within}
use Rattle.pcm_script.specs.Names.{command_named, control_named, way_named}
use Rattle.pcm_script.specs.Requests.{as_full, as_plain, asked_with, request_named}

-- a descriptor
abbrev pub descriptor_in : List ℕ → Result ℕ ScriptKind
descriptor_in word = number_within 0 (DESCRIPTORS - 1) word

abbrev pub or_fault : {A : Type 0} → Option A → ScriptKind → Result A ScriptKind
or_fault None kind = Err kind
or_fault (Some value) kind = Ok value

-- which way sound goes
abbrev pub way_in : List ℕ → Result Way ScriptKind
way_in word = or_fault (way_named word) Name

-- a sample format by its name
abbrev pub format_in : List ℕ → Result Format ScriptKind
format_in word = or_fault (format_named word) Name

-- a layout by its number of channels
abbrev pub layout_in : List ℕ → Result Layout ScriptKind
layout_in word = do
  channels ← number_in word
  or_fault (layout_of channels) Range

-- frames per second
abbrev pub rate_in : List ℕ → Result ℕ ScriptKind
rate_in word = number_within RATE_LEAST RATE_MOST word

-- the bytes of pairs of hexadecimal digits
abbrev pub short_bytes : Result (List ℕ) FromHexError → Result (List ℕ) ScriptKind
short_bytes (Ok bytes) = if nat_le (length bytes) WRITE_BYTES then Ok bytes else Err Hex
short_bytes (Err fault) = Err Hex

-- the bytes of a write or a poke: `-` is none
abbrev pub bytes_in : List ℕ → Result (List ℕ) ScriptKind
bytes_in word = if bytes_eq word (codes "-") then Ok [] else short_bytes (decode_of word)

-- the greatest argument of a request
abbrev pub most_argument : ℕ
most_argument = 4294967295

-- the code of the format that a word names; a word that names none must be a number, and is no name if it isn't one
abbrev pub code_or_number : Option Format → List ℕ → Result ℕ ScriptKind
code_or_number (Some format) word = Ok (code_of format)
code_or_number None word = do
  number ← or_fault (result_ok (number_in word)) Name
  within 0 most_argument number

-- the code of a format, by the format's name or as a number
abbrev pub code_in : List ℕ → Result ℕ ScriptKind
code_in word = code_or_number (format_named word) word

-- the argument of a request: any number, and for a format its name as well
abbrev pub argument_in : Setter → List ℕ → Result ℕ ScriptKind
argument_in SetFmt word = code_in word
argument_in setter word = number_within 0 most_argument word

-- `open D WAY` and `open D WAY FORMAT CHANNELS RATE`
unfoldable pub open_line : List (List ℕ) → Result Event ScriptKind
open_line (d ∷ w ∷ []) = do
  fd ← descriptor_in d
  way ← way_in w
  Ok (events.Open fd way OPENING)
open_line (d ∷ w ∷ f ∷ c ∷ r ∷ []) = do
  fd ← descriptor_in d
  way ← way_in w
  format ← format_in f
  layout ← layout_in c
  rate ← rate_in r
  Ok (events.Open fd way (record { format = format; layout = layout; rate = rate }))
open_line arguments = Err Count

-- `write D HEX`
unfoldable pub write_line : List (List ℕ) → Result LineEvent ScriptKind
write_line (d ∷ h ∷ []) = do
  fd ← descriptor_in d
  bytes ← bytes_in h
  Ok (Write fd bytes)
write_line arguments = Err Count

-- whether a word names a file
abbrev pub is_file_named : List ℕ → DataFileSeen → Bool
is_file_named word file = bytes_eq file.name word

-- the place of the file that a word names
abbrev pub file_in : List DataFileSeen → List ℕ → Result ℕ ScriptKind
file_in files word = or_fault (position (is_file_named word) files) Name

-- `count` bytes, which must end within a body
abbrev pub ending_within : ℕ → ℕ → ℕ → Result ℕ ScriptKind
ending_within size end count = if nat_le end size then Ok count else Err Range

-- how many bytes a word asks for, which must be there after a place of a body
abbrev pub length_in : ℕ → ℕ → List ℕ → Result ℕ ScriptKind
length_in size at word = do
  count ← number_in word
  ending_within size (at + count) count

-- how many bytes the file at a place has to send
abbrev pub size_of : List DataFileSeen → ℕ → ℕ
size_of files file = length (body_in (slice_get files file))

-- `send D FILE OFFSET LENGTH`
unfoldable pub send_line : List DataFileSeen → List (List ℕ) → Result Event ScriptKind
send_line files (d ∷ f ∷ o ∷ l ∷ []) = do
  fd ← descriptor_in d
  file ← file_in files f
  at ← number_in o
  count ← length_in (size_of files file) at l
  Ok (events.Write fd (File file) at count)
send_line files arguments = Err Count

-- the greatest offset of a poke
abbrev pub most_offset : ℕ
most_offset = 4294967295

-- `poke D OFFSET HEX`
unfoldable pub poke_line : List (List ℕ) → Result LineEvent ScriptKind
poke_line (d ∷ o ∷ h ∷ []) = do
  fd ← descriptor_in d
  offset ← number_within 0 most_offset o
  bytes ← bytes_in h
  Ok (Poke fd offset bytes)
poke_line arguments = Err Count

-- `read D LENGTH`
unfoldable pub read_line : List (List ℕ) → Result Event ScriptKind
read_line (d ∷ l ∷ []) = do
  fd ← descriptor_in d
  count ← number_within 0 READ_BYTES l
  Ok (events.Read fd count)
read_line arguments = Err Count

-- `ioctl D NAME` and `ioctl D NAME A`. The name says how many words there are. Whether it is one is judged in its turn.
unfoldable pub ioctl_line : List (List ℕ) → Result Event ScriptKind
ioctl_line (d ∷ name ∷ []) = do
  named ← as_plain (request_named name)
  fd ← descriptor_in d
  request ← or_fault named Name
  Ok (events.Ioctl fd request)
ioctl_line (d ∷ name ∷ a ∷ []) = do
  named ← as_full (request_named name)
  fd ← descriptor_in d
  setter ← or_fault named Name
  argument ← argument_in setter a
  Ok (asked_with setter fd argument)
ioctl_line arguments = Err Count

-- `close D`
unfoldable pub close_line : List (List ℕ) → Result Event ScriptKind
close_line (d ∷ []) = do
  fd ← descriptor_in d
  Ok (events.Close fd)
close_line arguments = Err Count

-- what is asked of the mixer device
abbrev pub control_in : List ℕ → Result Control ScriptKind
control_in word = or_fault (control_named word) Name

-- a number of the mixer device: a slot, a volume, or whether a slot is muted
abbrev pub setting_in : List ℕ → Result ℕ ScriptKind
setting_in word = number_within 0 most_argument word

-- without a number the master volume is asked for
abbrev pub asked_alone : Control → Result MixRequest ScriptKind
asked_alone Master = Ok mixes.GetMaster
asked_alone control = Err Count

-- with one number it is set, or the volume of a slot is asked for
abbrev pub asked_of_one : Control → List ℕ → Result MixRequest ScriptKind
asked_of_one Master a = do
  volume ← setting_in a
  Ok (mixes.SetMaster volume)
asked_of_one Slot s = do
  slot ← setting_in s
  Ok (mixes.GetSlot slot)
asked_of_one Mute s = Err Count

-- with two numbers something of a slot is set
abbrev pub asked_of_two : Control → List ℕ → List ℕ → Result MixRequest ScriptKind
asked_of_two Master s a = Err Count
asked_of_two Slot s a = do
  slot ← setting_in s
  volume ← setting_in a
  Ok (mixes.SetSlot slot volume)
asked_of_two Mute s a = do
  slot ← setting_in s
  on ← setting_in a
  Ok (mixes.Mute slot on)

-- `mixer master`, `mixer master A`, `mixer slot S`, `mixer slot S A` and `mixer mute S A`. The second word says how many words there are.
unfoldable pub mixer_line : List (List ℕ) → Result Event ScriptKind
mixer_line (c ∷ []) = do
  control ← control_in c
  request ← asked_alone control
  Ok (events.Mixer request)
mixer_line (c ∷ a ∷ []) = do
  control ← control_in c
  request ← asked_of_one control a
  Ok (events.Mixer request)
mixer_line (c ∷ s ∷ a ∷ []) = do
  control ← control_in c
  request ← asked_of_two control s a
  Ok (events.Mixer request)
mixer_line arguments = Err Count

-- `intr` and `intr N`
unfoldable pub interrupt_line : DeviceSeen → List (List ℕ) → Result Event ScriptKind
interrupt_line device [] = Ok (events.Intr (block_frames device))
interrupt_line device (n ∷ []) = do
  frames ← number_within 1 (ring_frames device) n
  Ok (events.Intr frames)
interrupt_line device arguments = Err Count

-- an event without bytes of its line
abbrev pub as_whole : Result Event ScriptKind → Result LineEvent ScriptKind
as_whole asked = do
  event ← asked
  Ok (Whole event)

-- the event of a command
abbrev pub asked_by : DeviceSeen → List DataFileSeen → Command → List (List ℕ) → Result LineEvent ScriptKind
asked_by device files commands.Open arguments = as_whole (open_line arguments)
asked_by device files commands.Write arguments = write_line arguments
asked_by device files commands.Send arguments = as_whole (send_line files arguments)
asked_by device files commands.Poke arguments = poke_line arguments
asked_by device files commands.Read arguments = as_whole (read_line arguments)
asked_by device files commands.Ioctl arguments = as_whole (ioctl_line arguments)
asked_by device files commands.Close arguments = as_whole (close_line arguments)
asked_by device files commands.Mixer arguments = as_whole (mixer_line arguments)
asked_by device files commands.Intr arguments = as_whole (interrupt_line device arguments)

-- a command by its first word
unfoldable pub command_line : DeviceSeen → List DataFileSeen → List ℕ → List (List ℕ) → Result LineEvent ScriptKind
command_line device files word arguments = do
  command ← or_fault (command_named word) Word
  asked_by device files command arguments

-- What a line of these words asks for, judged by itself: nothing if it has none, else the event of its command.
unfoldable pub line_event : DeviceSeen → List DataFileSeen → List (List ℕ) → Result (Option LineEvent) ScriptKind
line_event device files [] = Ok None
line_event device files (word ∷ arguments) = do
  event ← command_line device files word arguments
  Ok (Some event)

-- The text of a script: a line for each event, ended by a line feed, its words separated by one space.
use Rattle.std.specs.Prelude.{ℕ, List, [], ◌∷◌, ◌++◌, Option, Some, None, All, slice_get}
use Rattle.std.specs.Fmt.{decimal}
use Rattle.pcm_format.specs.declared.settings.Settings.{Settings}
use Rattle.pcm_format.specs.Formats.{name_of}
use Rattle.pcm_format.specs.Layouts.{channels_of}
use Rattle.pcm_oss.specs.declared.event.Event.{Event}
use Rattle.pcm_oss.specs.declared.event.Event.TheVariants.{Open, Write, Poke, Read, Ioctl, Join, StartGroup, Close, Mixer, Intr}
use Rattle.pcm_oss.specs.declared.mix_request.MixRequest.{MixRequest}
use Rattle.pcm_oss.specs.declared.mix_request.MixRequest.TheVariants as mixes
use Rattle.pcm_oss.specs.declared.request.Request.{Request}
use Rattle.pcm_oss.specs.declared.request.Request.TheVariants.{SetFmt, Speed, Channels, SetFragment, SetTrigger, SetPlayVol}
use Rattle.pcm_wave.specs.declared.pool.Pool.{Pool}
use Rattle.pcm_wave.specs.declared.pool.Source.TheVariants.{Inline, File}
use Rattle.pcm_wave.specs.DataFiles.{DataFileSeen}
use Rattle.pcm_wave.specs.Pools.{HasBytes, bytes_at}
use Rattle.pcm_report.specs.Lines.{bytes_text}
use Rattle.pcm_script.specs.declared.names.Command.{Command}
use Rattle.pcm_script.specs.declared.names.Command.TheVariants as commands
use Rattle.pcm_script.specs.declared.names.Control.{Control}
use Rattle.pcm_script.specs.declared.names.Control.TheVariants.{Master, Slot, Mute}
use Rattle.pcm_script.specs.declared.script.Script.{Script}
use Rattle.pcm_script.specs.Lines.{pool_of}
use Rattle.pcm_script.specs.Names.{command_name, control_name, join_name, request_name, start_group_name, way_name}

-- words, each after a space
abbrev pub spaced : List (List ℕ) → List ℕ
spaced [] = []
spaced (word ∷ words) = 32 ∷ word ++ spaced words

-- the command of an event
abbrev pub command_for : Event → Command
command_for (Open fd way settings) = commands.Open
command_for (Write fd Inline at count) = commands.Write
command_for (Write fd (File place) at count) = commands.Send
command_for (Poke fd offset at count) = commands.Poke
command_for (Read fd count) = commands.Read
command_for (Ioctl fd request) = commands.Ioctl
command_for (Join fd group) = commands.Ioctl
command_for (StartGroup fd group) = commands.Ioctl
command_for (Close fd) = commands.Close
command_for (Mixer request) = commands.Mixer
command_for (Intr frames) = commands.Intr

-- the name of a file, if there is one
abbrev pub file_name_in : Option DataFileSeen → List ℕ
file_name_in None = []
file_name_in (Some file) = file.name

-- the settings of an open
abbrev pub settings_words : Settings → List (List ℕ)
settings_words settings = name_of settings.format ∷ decimal (channels_of settings.layout) ∷ decimal settings.rate ∷ []

-- the argument of a request, if it has one
abbrev pub argument_of : Request → Option ℕ
argument_of (SetFmt argument) = Some argument
argument_of (Speed argument) = Some argument
argument_of (Channels argument) = Some argument
argument_of (SetFragment argument) = Some argument
argument_of (SetTrigger argument) = Some argument
argument_of (SetPlayVol argument) = Some argument
argument_of request = None

-- as a word: a number, for a format as well
abbrev pub argument_words : Option ℕ → List (List ℕ)
argument_words None = []
argument_words (Some argument) = decimal argument ∷ []

-- what a request of the mixer device is about
abbrev pub control_for : MixRequest → Control
control_for (mixes.SetMaster volume) = Master
control_for mixes.GetMaster = Master
control_for (mixes.SetSlot slot volume) = Slot
control_for (mixes.GetSlot slot) = Slot
control_for (mixes.Mute slot on) = Mute

-- its numbers, as words
abbrev pub setting_words : MixRequest → List (List ℕ)
setting_words (mixes.SetMaster volume) = decimal volume ∷ []
setting_words mixes.GetMaster = []
setting_words (mixes.SetSlot slot volume) = decimal slot ∷ decimal volume ∷ []
setting_words (mixes.GetSlot slot) = decimal slot ∷ []
setting_words (mixes.Mute slot on) = decimal slot ∷ decimal on ∷ []

-- what stands after the command of an event; a write has its bytes in hexadecimal, or a dash, and so has a poke
abbrev pub arguments_for : Pool → Event → List (List ℕ)
arguments_for pool (Open fd way settings) = decimal fd ∷ way_name way ∷ settings_words settings
arguments_for pool (Write fd Inline at count) = decimal fd ∷ bytes_text (bytes_at pool Inline at count) ∷ []
arguments_for pool (Write fd (File place) at count) = decimal fd ∷ file_name_in (slice_get pool.files place) ∷ decimal at ∷ decimal count ∷ []
arguments_for pool (Poke fd offset at count) = decimal fd ∷ decimal offset ∷ bytes_text (bytes_at pool Inline at count) ∷ []
arguments_for pool (Read fd count) = decimal fd ∷ decimal count ∷ []
arguments_for pool (Ioctl fd request) = decimal fd ∷ request_name request ∷ argument_words (argument_of request)
arguments_for pool (Join fd group) = decimal fd ∷ join_name ∷ decimal group ∷ []
arguments_for pool (StartGroup fd group) = decimal fd ∷ start_group_name ∷ decimal group ∷ []
arguments_for pool (Close fd) = decimal fd ∷ []
arguments_for pool (Mixer request) = control_name (control_for request) ∷ setting_words request
arguments_for pool (Intr frames) = decimal frames ∷ []

-- the line of an event, without its end
abbrev pub event_line : Pool → Event → List ℕ
event_line pool event = command_name (command_for event) ++ spaced (arguments_for pool event)

-- the lines of events
abbrev pub lines_for : Pool → List Event → List ℕ
lines_for pool [] = []
lines_for pool (event ∷ events) = event_line pool event ++ 10 ∷ lines_for pool events

-- the text of a script, whose files have these names
abbrev pub text_of : List DataFileSeen → Script → List ℕ
text_of files script = lines_for (pool_of files script) script.events

-- an event whose bytes are there
abbrev pub FindsBytes : Pool → Event → Type 0
FindsBytes pool (Write fd source at count) = HasBytes pool source at count
FindsBytes pool (Poke fd offset at count) = HasBytes pool Inline at count
FindsBytes pool event = Unit {0}

-- each write and each poke of a script names bytes that are there
abbrev pub AllFound : List DataFileSeen → Script → Type 0
AllFound files script = All (FindsBytes (pool_of files script)) script.events

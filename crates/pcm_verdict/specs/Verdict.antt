-- The verdict on a call: its words are judged first, then each file is read and judged, in a fixed order.
use Rattle.std.specs.Prelude.{ℕ, ◌-◌, ◌*◌, Bool, false, not, ◌&&◌, ◌==◌, nat_lt, if◌then◌else◌, List, [], ◌∷◌, ◌++◌, length, Option, Some, None, Result, Ok, Err}
use Rattle.std.specs.List.{sum_by}
use Rattle.std.specs.Str.{bytes_eq}
use Rattle.pcm_format.specs.declared.settings.Settings.{Settings}
use Rattle.pcm_format.specs.Frames.{frame_bytes}
use Rattle.pcm_format.specs.Layouts.{channels_of}
use Rattle.pcm_wave.specs.declared.written.TheConstants.{BODY_BYTES}
use Rattle.pcm_wave.specs.declared.pool.TheConstants.{DATA_BYTES}
use Rattle.pcm_wave.specs.declared.wave.Wave.{Wave}
use Rattle.pcm_wave.specs.declared.wave.WaveFault.{WaveFault}
use Rattle.pcm_wave.specs.DataFiles.{DataFileSeen, body_of}
use Rattle.pcm_wave.specs.Waves.{settings_of, wave_of}
use Rattle.pcm_convert.specs.Conversions.{converted_frames}
use Rattle.pcm_config.specs.declared.config.Config.{Config}
use Rattle.pcm_config.specs.declared.config.FilePath.{FilePath}
use Rattle.pcm_config.specs.declared.fault.ConfigRefusal.{ConfigRefusal}
use Rattle.pcm_config.specs.Configs.{config_read, usual_config}
use Rattle.pcm_desk.specs.Device.{unfiltered}
use Rattle.pcm_script.specs.declared.fault.Refusal.{Refusal}
use Rattle.pcm_script.specs.declared.script.Script.{Script}
use Rattle.pcm_script.specs.Lines.{script_read}
use Rattle.pcm_verdict.specs.Commands.{Command, RunScript, CheckScript, ConvertWave, SoakRun, command_of}
use Rattle.pcm_verdict.specs.Faults.{Fault, Usage, BadConfig, BadScript, BadWave, NoWave, Long, Shape}
use Rattle.pcm_verdict.specs.Judging.{◌>>=◌, Contents, Judged, judge, given, read_file}

-- ---- the configuration

abbrev pub or_bad_config : Result Config ConfigRefusal → Result Config Fault
or_bad_config (Ok config) = Ok config
or_bad_config (Err refusal) = Err (BadConfig refusal)

-- the configuration of a name; without one it is the usual one
abbrev pub config_judged : Contents → Option (List ℕ) → Judged Config
config_judged content None = given usual_config
config_judged content (Some name) = do
  text ← read_file content name
  judge (or_bad_config (config_read text))

-- ---- data files

-- whether a file is the one that is recorded from
abbrev pub is_capture : Option (List ℕ) → List ℕ → Bool
is_capture None name = false
is_capture (Some capture) name = bytes_eq capture name

-- whether a wave has the rate and the layout of these settings
abbrev pub has_shape : Settings → Wave → Bool
has_shape settings wave = wave.rate == settings.rate && channels_of wave.layout == channels_of settings.layout

-- a data file that is a wave, or isn't: the one that is recorded from has the shape of the device
abbrev pub file_of : Config → FilePath → List ℕ → Result Wave WaveFault → Result DataFileSeen Fault
file_of config file bytes (Err fault) = Err (BadWave file.path (NoWave fault))
file_of config file bytes (Ok wave) =
    if is_capture config.capture file.name && not (has_shape config.device.settings wave) then Err (BadWave file.path Shape)
    else Ok (record { name = file.name; bytes = bytes; wave = wave })

-- the bytes of all these files
abbrev pub bytes_held : List DataFileSeen → ℕ
bytes_held files = sum_by (λ file. length file.bytes) files

-- the bytes of a data file after these: together they aren't too long
abbrev pub file_behind : Config → List DataFileSeen → FilePath → List ℕ → Result DataFileSeen Fault
file_behind config before file bytes =
    if nat_lt (DATA_BYTES - bytes_held before) (length bytes) then Err (BadWave file.path Long)
    else file_of config file bytes (wave_of bytes)

-- a data file is read, and judged after those that were
abbrev pub file_judged : Contents → Config → List DataFileSeen → FilePath → Judged DataFileSeen
file_judged content config before file = do
  bytes ← read_file content file.path
  judge (file_behind config before file bytes)

-- data files after those that were read: each is judged before the next is read
abbrev pub files_behind : Contents → Config → List DataFileSeen → List FilePath → Judged (List DataFileSeen)
files_behind content config before [] = given before
files_behind content config before (file ∷ files) = do
  next ← file_judged content config before file
  files_behind content config (before ++ next ∷ []) files

-- ---- the script

abbrev pub or_bad_script : Result Script Refusal → Result Script Fault
or_bad_script (Ok script) = Ok script
or_bad_script (Err refusal) = Err (BadScript refusal)

-- the script of a name, for a device and data files; filters change nothing of what it may hold
abbrev pub script_judged : Contents → Config → List DataFileSeen → List ℕ → Judged Script
script_judged content config files name = do
  text ← read_file content name
  judge (or_bad_script (script_read (unfiltered config.device) files text))

-- What a script is run on.
pub record Inputs : Type 0 where
  pub config : Config
  pub files : List DataFileSeen
  pub script : Script

-- the data files of a configuration, and then the script
abbrev pub inputs_under : Contents → Config → List ℕ → Judged Inputs
inputs_under content config name = do
  files ← files_behind content config [] config.files
  script ← script_judged content config files name
  given (record { config = config; files = files; script = script })

-- the configuration, the data files and the script, in this order
abbrev pub inputs_judged : Contents → List ℕ → Option (List ℕ) → Judged Inputs
inputs_judged content name config = do
  settled ← config_judged content config
  inputs_under content settled name

-- ---- a conversion

-- What is converted: the bytes of a wave, the wave that they are, and the settings that are asked for.
pub record Conversion : Type 0 where
  pub source : DataFileSeen
  pub target : Settings

-- the frames that a conversion gives
abbrev pub frames_converted : Conversion → ℕ
frames_converted conversion = converted_frames (settings_of conversion.source.wave) conversion.target (body_of conversion.source)

-- a conversion that isn't too long
abbrev pub conversion_within : List ℕ → Conversion → Result Conversion Fault
conversion_within name conversion =
    if nat_lt BODY_BYTES (frames_converted conversion * frame_bytes conversion.target) then Err (BadWave name Long) else Ok conversion

abbrev pub conversion_from : List ℕ → Settings → List ℕ → Result Wave WaveFault → Result Conversion Fault
conversion_from name target bytes (Err fault) = Err (BadWave name (NoWave fault))
conversion_from name target bytes (Ok wave) =
    conversion_within name (record { source = record { name = name; bytes = bytes; wave = wave }; target = target })

-- the bytes of a wave that is to be converted
abbrev pub conversion_of : List ℕ → Settings → List ℕ → Result Conversion Fault
conversion_of name target bytes =
    if nat_lt DATA_BYTES (length bytes) then Err (BadWave name Long) else conversion_from name target bytes (wave_of bytes)

-- the wave of a name is read, and judged for these settings
abbrev pub conversion_judged : Contents → List ℕ → Settings → Judged Conversion
conversion_judged content name target = do
  bytes ← read_file content name
  judge (conversion_of name target bytes)

-- ---- the call

-- what an accepted call works on; files that are written are named
pub data Accepted : Type 0 where
  Runs : List ℕ → Inputs → Accepted
  Checks : Inputs → Accepted
  Converts : List ℕ → Conversion → Accepted
  -- no file is read: the number says all
  Soaks : ℕ → Accepted

-- a command's files are read and judged
abbrev pub command_judged : Contents → Command → Judged Accepted
command_judged content (RunScript script out config) = do
  inputs ← inputs_judged content script config
  given (Runs out inputs)
command_judged content (CheckScript script config) = do
  inputs ← inputs_judged content script config
  given (Checks inputs)
command_judged content (ConvertWave input out target) = do
  conversion ← conversion_judged content input target
  given (Converts out conversion)
command_judged content (SoakRun n) = given (Soaks n)

abbrev pub if_command : Contents → Option Command → Judged Accepted
if_command content None = judge (Err Usage)
if_command content (Some command) = command_judged content command

-- words are judged, and then the files of their command
abbrev pub words_judged : List (List ℕ) → Contents → Judged Accepted
words_judged words content = if_command content (command_of words)

-- The verdict on words, over the contents of the files: what the call works on, or why it is refused.
abbrev pub verdict : List (List ℕ) → Contents → Result Accepted Fault
verdict words content = (words_judged words content).came

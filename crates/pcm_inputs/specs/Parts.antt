-- The parts of a call that read and judge files.
use Rattle.std.specs.Prelude.{◌≡◌, ◌⊎◌, ◌*◌, ◌≤◌, ℕ, List, [], ◌∷◌, ◌++◌, Option, None, Some, Result, Ok, Err, slice_get}
use Rattle.pcm_format.specs.declared.settings.Settings.{Settings}
use Rattle.pcm_format.specs.Frames.{frame_bytes}
use Rattle.pcm_wave.specs.declared.data_file.DataFile.{DataFile}
use Rattle.pcm_wave.specs.DataFiles.{DataFileSeen}
use Rattle.pcm_wave.specs.Waves.{wave_of}
use Rattle.pcm_wave.specs.declared.written.TheConstants.{BODY_BYTES}
use Rattle.pcm_config.specs.declared.config.Config.{Config}
use Rattle.pcm_config.specs.declared.config.FilePath.{FilePath}
use Rattle.pcm_script.specs.declared.script.Script.{Script}
use Rattle.pcm_verdict.specs.Captures.{IsShaped}
use Rattle.pcm_verdict.specs.Judging.{read_file}
use Rattle.pcm_verdict.specs.Faults.{BadWave}
use Rattle.pcm_verdict.specs.Verdict as verdicts
use Rattle.pcm_verdict.specs.Verdict.{Conversion, config_judged, conversion_from, conversion_judged, file_judged, file_of, files_behind, frames_converted, inputs_judged, script_judged}
use Rattle.pcm_inputs.specs.declared.inputs.Inputs.{Inputs}
use Rattle.pcm_inputs.specs.declared.loaded.Loaded.{Loaded}
use Rattle.pcm_inputs.specs.declared.fault.FileKind.{FileKind}
use Rattle.pcm_inputs.specs.Commands.{MayNameFiles}
use Rattle.pcm_inputs.specs.Faults.{file_kind_seen}
use Rattle.pcm_inputs.specs.Outside.{Outside}
use Rattle.pcm_inputs.specs.Reads.{GivesValue, Part}

-- a file is read
abbrev pub file_part : List ℕ → Part (List ℕ)
file_part name = record { judged = λ content. read_file content name; may = λ other. other ≡ name }

-- a configuration is named
abbrev pub IsConfig : Option (List ℕ) → List ℕ → Type 0
IsConfig None name = ⊥
IsConfig (Some config) name = name ≡ config

-- the configuration
abbrev pub config_part : Option (List ℕ) → Part Config
config_part config = record { judged = λ content. config_judged content config; may = IsConfig config }

-- one data file, after those that were read
abbrev pub data_part : Config → List DataFileSeen → FilePath → Part DataFileSeen
data_part config before file = record { judged = λ content. file_judged content config before file; may = λ name. name ≡ file.path }

-- the paths of a configuration's files
pub record IsPath (config : Config) (name : List ℕ) : Type 0 where
  pub place : ℕ
  pub file : FilePath
  pub there : slice_get config.files place ≡ Some file
  pub is : name ≡ file.path

-- data files after those that were read
abbrev pub data_behind : Config → List DataFileSeen → List FilePath → Part (List DataFileSeen)
data_behind config before files = record { judged = λ content. files_behind content config before files; may = IsPath config }

-- all data files of a configuration
abbrev pub files_part : Config → Part (List DataFileSeen)
files_part config = data_behind config [] config.files

-- the script
abbrev pub script_part : Config → List DataFileSeen → List ℕ → Part Script
script_part config files name = record { judged = λ content. script_judged content config files name; may = λ other. other ≡ name }

-- all that a script is run on
abbrev pub inputs_part : List ℕ → Option (List ℕ) → Part verdicts.Inputs
inputs_part script config = record { judged = λ content. inputs_judged content script config; may = λ name. (name ≡ script) ⊎ MayNameFiles config }

-- the wave that is to be converted
abbrev pub conversion_part : List ℕ → Settings → Part Conversion
conversion_part name target = record { judged = λ content. conversion_judged content name target; may = λ other. other ≡ name }

-- the conversion of a wave to settings
abbrev pub conversion_to : DataFileSeen → Settings → Conversion
conversion_to source target = record { source = source; target = target }

-- what it gives has room in the body of a wave
abbrev pub HasRoom : Conversion → Type 0
HasRoom conversion = frames_converted conversion * frame_bytes conversion.target ≤ BODY_BYTES

-- what a script is run on, as the definitions have it
abbrev pub inputs_seen : Inputs → verdicts.Inputs
inputs_seen inputs = record { config = inputs.config; files = inputs.files; script = inputs.script }

-- one data file more was read, which has the shape of the device if it is recorded from
pub record AddsFile (config : Config) (file : FilePath) (old new : Loaded) (before after : Outside) : Type 0 where
  pub next : DataFileSeen
  pub gives : GivesValue (data_part config old.files.items file) next before after
  pub files : new.files.items ≡ old.files.items ++ next ∷ []
  pub shaped : IsShaped config next

-- what a file with these bytes is judged to be under its name
abbrev pub FileJudged : Config → List ℕ → List ℕ → Result DataFile FileKind → Type 0
FileJudged config name bytes (Ok file) = (path : List ℕ) → file_of config (record { name = name; path = path }) bytes (wave_of bytes) ≡ Ok file
FileJudged config name bytes (Err kind) = (path : List ℕ) → file_of config (record { name = name; path = path }) bytes (wave_of bytes) ≡ Err (BadWave path (file_kind_seen kind))

-- what a wave with these bytes is judged to be for the settings that it is to be converted to
abbrev pub SourceJudged : List ℕ → Settings → List ℕ → Result DataFile FileKind → Type 0
SourceJudged name target bytes (Ok source) = conversion_from name target bytes (wave_of bytes) ≡ Ok (record { source = source; target = target })
SourceJudged name target bytes (Err kind) = conversion_from name target bytes (wave_of bytes) ≡ Err (BadWave name (file_kind_seen kind))

-- Why a call is refused, the line that is printed then, and the status.
use Rattle.std.specs.Prelude.{ℕ, List, ◌++◌, codes}
use Rattle.std.specs.Fmt.{decimal}
use Rattle.pcm_wave.specs.declared.wave.WaveFault.{WaveFault}
use Rattle.pcm_wave.specs.declared.wave.WaveFault.TheVariants.{NotRiff, NoFormat, NoData, Unsupported, Truncated}
use Rattle.pcm_config.specs.declared.fault.ConfigRefusal.{ConfigRefusal}
use Rattle.pcm_config.specs.Places.{config_kind_word, place_word}
use Rattle.pcm_script.specs.declared.fault.Refusal.{Refusal}
use Rattle.pcm_script.specs.Kinds.{kind_word}

-- why a file that is to be a wave is refused
pub data FileKind : Type 0 where
  -- it is no wave
  NoWave : WaveFault → FileKind
  -- it is too long, or what it is converted to would be
  Long : FileKind
  -- its rate or its layout isn't the device's
  Shape : FileKind

-- why a call is refused
pub data Fault : Type 0 where
  -- the words match no form
  Usage : Fault
  -- a file that is to be read isn't there
  Missing : List ℕ → Fault
  -- the configuration's text is refused
  BadConfig : ConfigRefusal → Fault
  -- a wave is refused
  BadWave : List ℕ → FileKind → Fault
  -- the script's text is refused
  BadScript : Refusal → Fault

-- the word that names the kind of a file's fault
abbrev pub file_word : FileKind → List ℕ
file_word (NoWave NotRiff) = codes "notriff"
file_word (NoWave NoFormat) = codes "noformat"
file_word (NoWave NoData) = codes "nodata"
file_word (NoWave Unsupported) = codes "unsupported"
file_word (NoWave Truncated) = codes "truncated"
file_word Long = codes "long"
file_word Shape = codes "shape"

-- the words match no form: all forms
abbrev pub usage_line : List ℕ
usage_line = codes "dsp_replay: usage: run SCRIPT OUT [CONFIG] | check SCRIPT [CONFIG] | convert IN OUT RATE FORMAT CHANNELS | soak N\n"

-- a file can't be read
abbrev pub cannot_read_line : List ℕ → List ℕ
cannot_read_line name = codes "dsp_replay: cannot read " ++ name ++ codes "\n"

-- a configuration is refused
abbrev pub bad_config_line : ConfigRefusal → List ℕ
bad_config_line refusal =
    codes "dsp_replay: bad configuration: " ++ config_kind_word refusal.kind ++ codes " " ++ place_word refusal.place ++ codes "\n"

-- a script's line is refused
abbrev pub bad_script_line : Refusal → List ℕ
bad_script_line refusal =
    codes "dsp_replay: bad script: line " ++ decimal refusal.line ++ codes ": " ++ kind_word refusal.kind ++ codes "\n"

-- a wave is refused
abbrev pub bad_wave_line : List ℕ → FileKind → List ℕ
bad_wave_line name kind = codes "dsp_replay: bad wave: " ++ name ++ codes ": " ++ file_word kind ++ codes "\n"

-- the line of a fault
abbrev pub fault_line : Fault → List ℕ
fault_line Usage = usage_line
fault_line (Missing name) = cannot_read_line name
fault_line (BadConfig refusal) = bad_config_line refusal
fault_line (BadWave name kind) = bad_wave_line name kind
fault_line (BadScript refusal) = bad_script_line refusal

-- the status of a fault
abbrev pub status_of : Fault → ℕ
status_of Usage = 2
status_of (Missing name) = 3
status_of (BadConfig refusal) = 4
status_of (BadScript refusal) = 5
status_of (BadWave name kind) = 6

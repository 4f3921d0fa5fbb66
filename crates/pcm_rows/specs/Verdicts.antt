-- Files by their names, and the outcomes of calls over them.
use Rattle.std.specs.Prelude.{ℕ, List, [], ◌∷◌, ◌++◌, codes, Option, Some, None, length, replicate, take, if◌then◌else◌}
use Rattle.std.specs.Str.{bytes_eq}
use Rattle.pcm_format.specs.declared.settings.Settings.{Settings}
use Rattle.pcm_wave.specs.declared.wave.WaveFault.TheVariants.{NotRiff}
use Rattle.pcm_wave.specs.DataFiles.{DataFileSeen}
use Rattle.pcm_wave.specs.Headers.{header_of}
use Rattle.pcm_wave.specs.Waves.{wave_with}
use Rattle.pcm_config.specs.declared.config.Container.TheVariants.{Wav}
use Rattle.pcm_config.specs.Configs.{usual_config}
use Rattle.pcm_oss.specs.declared.event.Event.TheVariants.{Intr, Write}
use Rattle.pcm_wave.specs.declared.pool.Source.TheVariants.{File}
use Rattle.pcm_verdict.specs.Faults.{BadWave, Fault, NoWave}
use Rattle.pcm_verdict.specs.Verdict.{Conversion, Inputs}
use Rattle.pcm_rows.specs.ClientRates.{step_body}
use Rattle.pcm_rows.specs.ConversionRows.{mono_at, stereo_at, unsigned_at}
use Rattle.pcm_rows.specs.Waves.{data_chunk, format_chunk, small_number, small_wave, stereo_settings, wave_file}

-- a file: its name and its bytes
pub record Held : Type 0 where
  pub name : List ℕ
  pub bytes : List ℕ

abbrev pub file_with : List ℕ → List ℕ → Held
file_with name bytes = record { name = name; bytes = bytes }

-- the contents of files, by their names
abbrev pub contents : List Held → List ℕ → Option (List ℕ)
contents [] name = None
contents (file ∷ files) name = if bytes_eq file.name name then Some file.bytes else contents files name

-- a configuration of one data file
abbrev pub song_config : List ℕ
song_config = codes "[files]\nsong = \"w\"\n"

-- the data file `w` under the name `song`: one frame of two channels
abbrev pub song : DataFileSeen
song = record { name = codes "song"; bytes = small_wave; wave = wave_with stereo_settings 44 4 }

-- a script that sends the second sample of the song
abbrev pub song_script : List ℕ
song_script = codes "send 0 song 2 2\n"

abbrev pub song_inputs : Inputs
song_inputs = record {
  config = record usual_config { files = (record { name = codes "song"; path = codes "w" }) ∷ [] };
  files = song ∷ [];
  script = record { events = Write 0 (File 0) 2 2 ∷ []; inline_bytes = []; device_frames = 0 };
}

-- the files of a check: the script, the configuration and the wave
abbrev pub song_files : List ℕ → Option (List ℕ)
song_files = contents (file_with (codes "s") song_script ∷ file_with (codes "c") song_config ∷ file_with (codes "w") small_wave ∷ [])

-- the configuration and the first bytes of the wave, without a script
abbrev pub cut_files : List ℕ → Option (List ℕ)
cut_files = contents (file_with (codes "c") song_config ∷ file_with (codes "w") (take 11 small_wave) ∷ [])

-- why a call stops there
abbrev pub cut_wave_fault : Fault
cut_wave_fault = BadWave (codes "w") (NoWave NotRiff)

-- a run without a file to play into
abbrev pub short_call : List (List ℕ)
short_call = codes "run" ∷ codes "s" ∷ []

-- the words of a check
abbrev pub check_call : List (List ℕ)
check_call = codes "check" ∷ codes "s" ∷ codes "c" ∷ []

-- a script of two blocks on the usual device, whose file is a wave
abbrev pub silent_inputs : Inputs
silent_inputs = record {
  config = record usual_config { container = Wav };
  files = [];
  script = record { events = Intr 4 ∷ Intr 4 ∷ []; inline_bytes = []; device_frames = 8 };
}

-- its file: 68 bytes stand after its size, of which 32 are the silence
abbrev pub silent_wave : List ℕ
silent_wave = wave_file (small_number 68) (format_chunk ++ data_chunk (small_number 32) (replicate 32 0))

-- a body in settings that is converted to others
abbrev pub converted_from : Settings → Settings → List ℕ → Conversion
converted_from source target body = record {
  source = record { name = codes "w"; bytes = header_of source 0 ++ body; wave = wave_with source 44 (length body) };
  target = target;
}

-- 0 and 100 at twice the rate
abbrev pub step_conversion : Conversion
step_conversion = converted_from (stereo_at 24000) (stereo_at 48000) step_body

-- one channel of 16 bits as unsigned bytes
abbrev pub as_unsigned : List ℕ → Conversion
as_unsigned body = converted_from (mono_at 8000) (unsigned_at 8000) body

-- Which data file is recorded from.
use Rattle.std.specs.Prelude.{◌≡◌, ℕ, Bool, true, List, Option, Some, None, position}
use Rattle.std.specs.Str.{bytes_eq}
use Rattle.pcm_wave.specs.declared.pool.Pool.{Pool}
use Rattle.pcm_wave.specs.DataFiles.{DataFileSeen}
use Rattle.pcm_config.specs.declared.config.Config.{Config}
use Rattle.pcm_script.specs.declared.script.Script.{Script}
use Rattle.pcm_script.specs.Lines.{pool_of}
use Rattle.pcm_verdict.specs.Verdict.{has_shape, is_capture}

-- whether a file has a name
abbrev pub has_name : List ℕ → DataFileSeen → Bool
has_name name file = bytes_eq name file.name

-- the place of the file that is recorded from, if there is one
abbrev pub capture_place : Option (List ℕ) → List DataFileSeen → Option ℕ
capture_place None files = None
capture_place (Some name) files = position (has_name name) files

-- where the bytes of a script's events are found, with what is recorded
abbrev pub pool_with : Option ℕ → List DataFileSeen → Script → Pool
pool_with capture files script = record (pool_of files script) { capture = capture }

-- a file of a configuration has the shape of the device, if it is the one that is recorded from
abbrev pub IsShaped : Config → DataFileSeen → Type 0
IsShaped config file = is_capture config.capture file.name ≡ true → has_shape config.device.settings file.wave ≡ true

-- What an accepted call leaves: a file, where it writes one, and what is printed.
use Rattle.std.specs.Prelude.{ℕ, ◌*◌, List, [], ◌++◌, length, replicate, Option, Some, None, codes}
use Rattle.std.specs.Fmt.{decimal}
use Rattle.pcm_format.specs.Frames.{frame_bytes}
use Rattle.pcm_wave.specs.declared.pool.Pool.{Pool}
use Rattle.pcm_wave.specs.DataFiles.{body_of}
use Rattle.pcm_wave.specs.Headers.{header_of, padding}
use Rattle.pcm_wave.specs.Waves.{settings_of}
use Rattle.pcm_convert.specs.Conversions.{converted_body}
use Rattle.pcm_config.specs.declared.config.Container.{Container}
use Rattle.pcm_config.specs.declared.config.Container.TheVariants.{Raw, Wav}
use Rattle.pcm_config.specs.Configs.{device_seen}
use Rattle.pcm_desk.specs.Device.{DeviceSeen, device_settings}
use Rattle.pcm_sound.specs.DeviceList.{device_text}
use Rattle.pcm_verdict.specs.Captures.{capture_place, pool_with}
use Rattle.pcm_verdict.specs.Soaks.{soak_line}
use Rattle.pcm_verdict.specs.Transcript.{transcript}
use Rattle.pcm_verdict.specs.Verdict.{Accepted, Runs, Checks, Converts, Soaks, Conversion, Inputs, frames_converted}

-- a file's name and its bytes
pub record Written : Type 0 where
  pub name : List ℕ
  pub bytes : List ℕ

pub record Output : Type 0 where
  pub file : Option Written
  pub lines : List ℕ

-- where the bytes of a script's events are found, and the frames that are recorded
abbrev pub inputs_pool : Inputs → Pool
inputs_pool inputs = pool_with (capture_place inputs.config.capture inputs.files) inputs.files inputs.script

-- what stands before the frames of a device file
abbrev pub file_header : Container → DeviceSeen → ℕ → List ℕ
file_header Raw device frames = []
file_header Wav device frames = header_of (device_settings device) frames

-- what stands before the frames in the file of a run
abbrev pub header_in : Inputs → List ℕ
header_in inputs = file_header inputs.config.container (device_seen inputs.config) inputs.script.device_frames

-- the bytes that the device of a run gets
abbrev pub device_bytes_in : Inputs → List ℕ
device_bytes_in inputs = device_text (device_seen inputs.config) (inputs_pool inputs) inputs.script.events

-- the device file: its header, and the device's bytes
abbrev pub device_file : Inputs → List ℕ
device_file inputs = header_in inputs ++ device_bytes_in inputs

-- the replies to a script's events
abbrev pub replies_printed : Inputs → List ℕ
replies_printed inputs = transcript (device_seen inputs.config) (inputs_pool inputs) inputs.script.events

-- how many events a script has, and how many frames its interrupts take
abbrev pub check_line : Inputs → List ℕ
check_line inputs =
    codes "events " ++ decimal (length inputs.script.events) ++ codes " frames " ++ decimal inputs.script.device_frames ++ codes "\n"

-- the wave that a conversion gives: its header, the converted frames, and a byte of padding after an odd number of bytes
abbrev pub converted_file : Conversion → List ℕ
converted_file conversion =
    header_of conversion.target (frames_converted conversion)
    ++ converted_body (settings_of conversion.source.wave) conversion.target (body_of conversion.source)
    ++ replicate (padding (frames_converted conversion * frame_bytes conversion.target)) 0

-- how many frames were written
abbrev pub convert_line : Conversion → List ℕ
convert_line conversion = codes "frames " ++ decimal (frames_converted conversion) ++ codes "\n"

-- what an accepted call is to leave
abbrev pub output_of : Accepted → Output
output_of (Runs out inputs) = record { file = Some (record { name = out; bytes = device_file inputs }); lines = replies_printed inputs }
output_of (Checks inputs) = record { file = None; lines = check_line inputs }
output_of (Converts out conversion) =
    record { file = Some (record { name = out; bytes = converted_file conversion }); lines = convert_line conversion }
output_of (Soaks n) = record { file = None; lines = soak_line n }

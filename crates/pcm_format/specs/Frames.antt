-- A frame is one sample per channel, in the layout's order. A part of a frame is no frame.
use Rattle.std.specs.Prelude.{ℕ, ◌+◌, ◌*◌, ◌/◌, List, length, map, ℤ}
use Rattle.std.specs.List.{range_with_len, flat_map}
use Rattle.pcm_format.specs.declared.format.Format.{Format}
use Rattle.pcm_format.specs.declared.settings.Settings.{Settings}
use Rattle.pcm_format.specs.Formats.{bytes_of}
use Rattle.pcm_format.specs.Layouts.{channels_of}
use Rattle.pcm_format.specs.Samples.{sample_at, spelled}

-- one sample per channel
abbrev pub Frame : Type 0
Frame = List ℤ

-- how many bytes a frame has
abbrev pub frame_bytes : Settings → ℕ
frame_bytes settings = channels_of settings.layout * bytes_of settings.format

-- how many whole frames a number of bytes holds
abbrev pub whole_frames : Settings → ℕ → ℕ
whole_frames settings bytes = bytes / frame_bytes settings

-- frame k of bytes that hold frames one after another, at 32 bits
abbrev pub frame_at : Settings → List ℕ → ℕ → Frame
frame_at settings bytes k =
    map (λ channel. sample_at settings.format bytes (k * channels_of settings.layout + channel))
    (range_with_len 0 (channels_of settings.layout))

-- all whole frames of bytes, at 32 bits
abbrev pub frames : Settings → List ℕ → List Frame
frames settings bytes = map (frame_at settings bytes) (range_with_len 0 (whole_frames settings (length bytes)))

-- the bytes of a frame
abbrev pub spelled_frame : Format → Frame → List ℕ
spelled_frame format frame = flat_map (spelled format) frame

-- the bytes of frames
abbrev pub spelled_frames : Format → List Frame → List ℕ
spelled_frames format frames = flat_map (spelled_frame format) frames

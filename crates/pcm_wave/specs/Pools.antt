-- What a run reads from: the bytes of its script's lines, and of its data files.
use Rattle.std.specs.Prelude.{◌≡◌, ◌+◌, ◌<◌, ◌≤◌, ℕ, pos, List, [], length, map, take, drop, replicate, Option, Some, None, IfSome, slice_get, slice_index_or}
use Rattle.std.specs.List.{range_with_len}
use Rattle.pcm_format.specs.declared.layout.Layout.{Layout}
use Rattle.pcm_format.specs.declared.settings.Settings.{Settings}
use Rattle.pcm_format.specs.Frames.{Frame, frames}
use Rattle.pcm_format.specs.Layouts.{channels_of}
use Rattle.pcm_wave.specs.declared.pool.Pool.{Pool}
use Rattle.pcm_wave.specs.declared.pool.Source.{Source}
use Rattle.pcm_wave.specs.declared.pool.Source.TheVariants.{Inline, File}
use Rattle.pcm_wave.specs.DataFiles.{DataFileSeen, body_of}
use Rattle.pcm_wave.specs.Waves.{settings_of}

-- the body of a file, if there is one
abbrev pub body_in : Option DataFileSeen → List ℕ
body_in None = []
body_in (Some file) = body_of file

-- the bytes of a source
abbrev pub source_bytes : Pool → Source → List ℕ
source_bytes pool Inline = pool.inline_bytes
source_bytes pool (File place) = body_in (slice_get pool.files place)

-- `count` bytes of a source, from a place on
abbrev pub bytes_at : Pool → Source → ℕ → ℕ → List ℕ
bytes_at pool source at count = take count (drop at (source_bytes pool source))

-- a source that a pool has
abbrev pub HasSource : Pool → Source → Type 0
HasSource pool Inline = Unit {0}
HasSource pool (File place) = place < length pool.files

-- a source that a pool has, with `count` bytes from a place on
pub record HasBytes (pool : Pool) (source : Source) (at count : ℕ) : Type 0 where
  pub has : HasSource pool source
  pub within : at + count ≤ length (source_bytes pool source)

-- the file at a place, if both are there
abbrev pub file_at : List DataFileSeen → Option ℕ → Option DataFileSeen
file_at files None = None
file_at files (Some place) = slice_get files place

-- the file that is recorded from
abbrev pub capture_of : Pool → Option DataFileSeen
capture_of pool = file_at pool.files pool.capture

-- the frames of a file, if there is one
abbrev pub frames_in : Option DataFileSeen → List Frame
frames_in None = []
frames_in (Some file) = frames (settings_of file.wave) (body_of file)

-- every whole frame of the file that is recorded from
abbrev pub capture_frames : Pool → List Frame
capture_frames pool = frames_in (capture_of pool)

-- what is recorded from has this layout
abbrev pub IsCaptureIn : Layout → Pool → Type 0
IsCaptureIn layout pool = IfSome (capture_of pool) (λ file. file.wave.layout ≡ layout)

-- silence in a layout
abbrev pub silent_frame : Layout → Frame
silent_frame layout = replicate (channels_of layout) (pos 0)

-- frame k of a body, and silence past its last one
abbrev pub frame_or_silence : Settings → List ℕ → ℕ → Frame
frame_or_silence settings body k = slice_index_or (frames settings body) k (silent_frame settings.layout)

-- frame k of what is recorded in a layout: silence past the last one, and where there is no file
abbrev pub captured_frame : Layout → Pool → ℕ → Frame
captured_frame layout pool k = slice_index_or (capture_frames pool) k (silent_frame layout)

-- `count` of them, from frame `from` on
abbrev pub captured_frames : Layout → Pool → ℕ → ℕ → List Frame
captured_frames layout pool from count = map (captured_frame layout pool) (range_with_len from count)

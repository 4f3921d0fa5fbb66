-- The header of a wave: 44 bytes before the body.
use Rattle.std.specs.Prelude.{ℕ, ◌+◌, ◌*◌, ◌%◌, List, ◌++◌, codes, ◌≤◌, ◌⊎◌, ◌≡◌}
use Rattle.pcm_format.specs.declared.format.Format.{Format}
use Rattle.pcm_format.specs.declared.format.Format.TheVariants.{U8, S16Le, S24Le, S32Le}
use Rattle.pcm_format.specs.declared.settings.Settings.{Settings}
use Rattle.pcm_format.specs.Formats.{bits_of}
use Rattle.pcm_format.specs.Frames.{frame_bytes}
use Rattle.pcm_format.specs.Layouts.{channels_of}
use Rattle.pcm_format.specs.Samples.{low_bytes}
use Rattle.pcm_wave.specs.declared.written.TheConstants.{BODY_BYTES}

-- how many bytes the frames of a wave have
abbrev pub body_size : Settings → ℕ → ℕ
body_size settings frames = frames * frame_bytes settings

-- the byte of padding after a body of an odd size
abbrev pub padding : ℕ → ℕ
padding size = size % 2

-- the header for `frames` frames: the form, the "fmt " chunk, and the head of the "data" chunk
abbrev pub header_of : Settings → ℕ → List ℕ
header_of settings frames =
    let size = body_size settings frames in
    codes "RIFF" ++ low_bytes 4 (36 + size + padding size) ++ codes "WAVE"
    ++ codes "fmt " ++ low_bytes 4 16 ++ low_bytes 2 1
    ++ low_bytes 2 (channels_of settings.layout) ++ low_bytes 4 settings.rate
    ++ low_bytes 4 (settings.rate * frame_bytes settings) ++ low_bytes 2 (frame_bytes settings) ++ low_bytes 2 (bits_of settings.format)
    ++ codes "data" ++ low_bytes 4 size

-- the formats that waves have
abbrev pub IsWaveFormat : Format → Type 0
IsWaveFormat format = (format ≡ U8) ⊎ ((format ≡ S16Le) ⊎ ((format ≡ S24Le) ⊎ (format ≡ S32Le)))

-- a header can state the size of this body
abbrev pub IsBody : Settings → ℕ → Type 0
IsBody settings frames = body_size settings frames ≤ BODY_BYTES

-- Small waves, byte by byte: two channels of 16 bits at 48000 frames each second, and one frame with the values 1 and 2.
use Rattle.std.specs.Prelude.{ℕ, List, [], ◌∷◌, ◌++◌, codes, take, Result, Ok}
use Rattle.pcm_format.specs.declared.format.Format.TheVariants.{S16Le}
use Rattle.pcm_format.specs.declared.layout.Layout.TheVariants.{Two}
use Rattle.pcm_format.specs.declared.settings.Settings.{Settings}
use Rattle.pcm_wave.specs.declared.wave.Wave.{Wave}
use Rattle.pcm_wave.specs.declared.wave.WaveFault.{WaveFault}
use Rattle.pcm_wave.specs.Waves.{wave_with}

-- four bytes of a number below 256
abbrev pub small_number : ℕ → List ℕ
small_number n = n ∷ 0 ∷ 0 ∷ 0 ∷ []

-- a file of the form WAVE, with the size that it states, and its chunks
abbrev pub wave_file : List ℕ → List ℕ → List ℕ
wave_file size chunks = codes "RIFF" ++ size ++ codes "WAVE" ++ chunks

-- the 16 bytes of a format at 48000 frames each second: tag, channels, bytes of a frame, bits
abbrev pub format_bytes : ℕ → ℕ → ℕ → ℕ → List ℕ
format_bytes tag channels frame bits =
    tag ∷ 0 ∷ channels ∷ 0 ∷ 0x80 ∷ 0xbb ∷ 0 ∷ 0 ∷ 0 ∷ 0xee ∷ 2 ∷ 0 ∷ frame ∷ 0 ∷ bits ∷ 0 ∷ []

-- a "fmt " chunk of these
abbrev pub format_of : ℕ → ℕ → ℕ → ℕ → List ℕ
format_of tag channels frame bits = codes "fmt " ++ small_number 16 ++ format_bytes tag channels frame bits

-- that of the small wave
abbrev pub format_chunk : List ℕ
format_chunk = format_of 1 2 4 16

-- and the same with two bytes less
abbrev pub short_format : List ℕ
short_format = codes "fmt " ++ small_number 14 ++ take 14 (format_bytes 1 2 4 16)

-- the same with another rate, as four bytes
abbrev pub format_chunk_at : List ℕ → List ℕ
format_chunk_at rate = codes "fmt " ++ small_number 16 ++ (1 ∷ 0 ∷ 2 ∷ 0 ∷ []) ++ rate ++ (0 ∷ 0xee ∷ 2 ∷ 0 ∷ 4 ∷ 0 ∷ 16 ∷ 0 ∷ [])

-- the one frame
abbrev pub frame_of_two : List ℕ
frame_of_two = 1 ∷ 0 ∷ 2 ∷ 0 ∷ []

-- a "data" chunk that states a size
abbrev pub data_chunk : List ℕ → List ℕ → List ℕ
data_chunk size body = codes "data" ++ size ++ body

-- and that of the small wave
abbrev pub frame_chunk : List ℕ
frame_chunk = data_chunk (small_number 4) frame_of_two

-- the small wave: 40 bytes stand after the size of the file
abbrev pub small_wave : List ℕ
small_wave = wave_file (small_number 40) (format_chunk ++ frame_chunk)

-- a chunk that isn't read, of a size
abbrev pub list_chunk : ℕ → List ℕ → List ℕ
list_chunk size body = codes "LIST" ++ small_number size ++ body

-- one of three bytes, which has a byte of padding
abbrev pub odd_chunk : List ℕ
odd_chunk = list_chunk 3 (7 ∷ 7 ∷ 7 ∷ 0 ∷ [])

-- a "fmt " chunk of 40 bytes: an extensible format with 22 bytes more, that names a format
abbrev pub extensible_chunk : ℕ → List ℕ
extensible_chunk named =
    codes "fmt " ++ small_number 40 ++ (0xfe ∷ 0xff ∷ 2 ∷ 0 ∷ 0x80 ∷ 0xbb ∷ 0 ∷ 0 ∷ 0 ∷ 0xee ∷ 2 ∷ 0 ∷ 4 ∷ 0 ∷ 16 ∷ 0 ∷ [])
    ++ (22 ∷ 0 ∷ 16 ∷ 0 ∷ 3 ∷ 0 ∷ 0 ∷ 0 ∷ [])
    ++ (named ∷ 0 ∷ 0 ∷ 0 ∷ 0 ∷ 0 ∷ 0x10 ∷ 0 ∷ 0x80 ∷ 0 ∷ 0 ∷ 0xaa ∷ 0 ∷ 0x38 ∷ 0x9b ∷ 0x71 ∷ [])

-- the file of the chunks, which states 0 as its size
abbrev pub wave_of_chunks : List ℕ → List ℕ
wave_of_chunks chunks = wave_file (small_number 0) chunks

-- the small wave, whose "data" chunk states another size
abbrev pub wave_telling : List ℕ → List ℕ
wave_telling size = wave_of_chunks (format_chunk ++ data_chunk size frame_of_two)

-- the settings of the small wave
abbrev pub stereo_settings : Settings
stereo_settings = record { format = S16Le; layout = Two; rate = 48000 }

-- what is read: the settings of the small wave, and its body of four bytes from a place on
abbrev pub read_from : ℕ → Result Wave WaveFault
read_from at = Ok (wave_with stereo_settings at 4)

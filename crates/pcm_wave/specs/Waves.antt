-- Which bytes are a wave: what its "fmt " chunk states, and where the body of its "data" chunk stands.
use Rattle.std.specs.Prelude.{ℕ, ◌+◌, ◌-◌, Bool, false, ◌&&◌, ◌||◌, ◌==◌, nat_le, nat_lt, if◌then◌else◌, List, [], ◌∷◌, length, codes, min, Option, Some, None, Result, Ok, Err}
use Rattle.pcm_format.specs.declared.format.Format.{Format}
use Rattle.pcm_format.specs.declared.format.Format.TheVariants.{U8, S16Le, S24Le, S32Le}
use Rattle.pcm_format.specs.declared.layout.Layout.{Layout}
use Rattle.pcm_format.specs.declared.settings.Settings.{Settings}
use Rattle.pcm_format.specs.declared.settings.TheConstants.{RATE_LEAST, RATE_MOST}
use Rattle.pcm_format.specs.Frames.{frame_bytes}
use Rattle.pcm_format.specs.Layouts.{layout_of}
use Rattle.pcm_wave.specs.declared.wave.Wave.{Wave}
use Rattle.pcm_wave.specs.declared.wave.WaveFault.{WaveFault}
use Rattle.pcm_wave.specs.declared.wave.WaveFault.TheVariants.{NotRiff, NoFormat, NoData, Unsupported, Truncated}
use Rattle.pcm_wave.specs.Chunks.{number_at, stands_at, size_at, body_begin, has_body, chunk_place, is_riff}

-- the settings of a wave's frames
abbrev pub settings_of : Wave → Settings
settings_of wave = record { format = wave.format; layout = wave.layout; rate = wave.rate }

-- the wave in these settings whose body has `len` bytes from a place on
abbrev pub wave_with : Settings → ℕ → ℕ → Wave
wave_with settings at len = record { format = settings.format; layout = settings.layout; rate = settings.rate; at = at; len = len }

-- where its body ends
abbrev pub wave_end : Wave → ℕ
wave_end wave = wave.at + wave.len

-- the tag of integer PCM, and that of an extensible format
abbrev pub pcm_tag : ℕ
pcm_tag = 1

abbrev pub extensible_tag : ℕ
extensible_tag = 0xFFFE

-- what an extensible format names where it is integer PCM: the tag, and the rest that all such names share
abbrev pub pcm_name : List ℕ
pcm_name = 1 ∷ 0 ∷ 0 ∷ 0 ∷ 0 ∷ 0 ∷ 0x10 ∷ 0 ∷ 0x80 ∷ 0 ∷ 0 ∷ 0xAA ∷ 0 ∷ 0x38 ∷ 0x9B ∷ 0x71 ∷ []

-- whether a body of "fmt " of a size states integer PCM, plainly or as an extensible format
abbrev pub is_pcm : List ℕ → ℕ → ℕ → Bool
is_pcm bytes at size =
    number_at bytes at 2 == pcm_tag
    || (number_at bytes at 2 == extensible_tag && (nat_le 40 size && stands_at bytes (at + 24) pcm_name))

-- the format of samples of a number of bits
abbrev pub format_of_bits : ℕ → Option Format
format_of_bits bits =
    if bits == 8 then Some U8
    else if bits == 16 then Some S16Le
    else if bits == 24 then Some S24Le
    else if bits == 32 then Some S32Le
    else None

-- settings whose rate is within the limits, and whose frames have `align` bytes
abbrev pub checked : Settings → ℕ → Option Settings
checked settings align =
    if nat_le RATE_LEAST settings.rate && (nat_le settings.rate RATE_MOST && frame_bytes settings == align) then Some settings else None

-- the settings of a layout, a rate and a format, if both are there
abbrev pub settings_from : Option Format → Option Layout → ℕ → ℕ → Option Settings
settings_from (Some format) (Some layout) rate align = checked (record { format = format; layout = layout; rate = rate }) align
settings_from format layout rate align = None

-- the settings that a body of "fmt " states, of a size and at a place
abbrev pub settings_told : List ℕ → ℕ → ℕ → Option Settings
settings_told bytes at size =
    if nat_le 16 size && is_pcm bytes at size
    then settings_from (format_of_bits (number_at bytes (at + 14) 2)) (layout_of (number_at bytes (at + 2) 2))
    (number_at bytes (at + 4) 4) (number_at bytes (at + 12) 2)
    else None

abbrev pub or_unsupported : Option Settings → Result Settings WaveFault
or_unsupported None = Err Unsupported
or_unsupported (Some settings) = Ok settings

-- what the "fmt " chunk at a place states
abbrev pub format_told : List ℕ → ℕ → Result Settings WaveFault
format_told bytes p =
    if has_body bytes p then or_unsupported (settings_told bytes (body_begin p) (size_at bytes p)) else Err Truncated

-- the least size of a body whose writer didn't know where it would end
abbrev pub open_size : ℕ
open_size = 0x7F000000

-- The body of the "data" chunk at a place, in these settings. One whose writer didn't know its end goes to the end of the bytes.
abbrev pub body_told : List ℕ → Settings → ℕ → Result Wave WaveFault
body_told bytes settings p =
    if has_body bytes p || nat_le open_size (size_at bytes p)
    then Ok (wave_with settings (body_begin p) (min (size_at bytes p) (length bytes - body_begin p)))
    else Err Truncated

-- the "data" chunk's body after a "fmt " chunk that stated these settings, or was refused
abbrev pub body_behind : List ℕ → Result Settings WaveFault → Option ℕ → Result Wave WaveFault
body_behind bytes (Err fault) place = Err fault
body_behind bytes (Ok settings) None = Err NoData
body_behind bytes (Ok settings) (Some p) = body_told bytes settings p

-- whether a "data" chunk stands before a place
abbrev pub stands_before : Option ℕ → ℕ → Bool
stands_before None p = false
stands_before (Some body) p = nat_lt body p

-- The wave of a RIFF file, by the least places of its chunks of both kinds. A "data" chunk before all "fmt " chunks has no format.
abbrev pub wave_at : List ℕ → Option ℕ → Option ℕ → Result Wave WaveFault
wave_at bytes None body = Err NoFormat
wave_at bytes (Some p) body = if stands_before body p then Err NoFormat else body_behind bytes (format_told bytes p) body

-- the wave that bytes are, or why they are none
abbrev pub wave_of : List ℕ → Result Wave WaveFault
wave_of bytes =
    if is_riff bytes then wave_at bytes (chunk_place bytes (codes "fmt ")) (chunk_place bytes (codes "data")) else Err NotRiff

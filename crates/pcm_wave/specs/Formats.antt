-- The sample formats that waves have.
use Rattle.std.specs.Prelude.{Bool, true, false, if◌then◌else◌, Option, Some, None}
use Rattle.pcm_format.specs.declared.format.Format.{Format}
use Rattle.pcm_format.specs.declared.format.Format.TheVariants.{U8, S16Le, S24Le, S32Le}

-- bytes without a sign, and little-endian numbers with one
abbrev pub is_wave_format : Format → Bool
is_wave_format U8 = true
is_wave_format S16Le = true
is_wave_format S24Le = true
is_wave_format S32Le = true
is_wave_format format = false

-- a format, if waves have it
abbrev pub wave_format : Format → Option Format
wave_format format = if is_wave_format format then Some format else None

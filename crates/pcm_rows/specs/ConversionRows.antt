-- Bodies of waves, and the settings between which they are converted.
use Rattle.std.specs.Prelude.{ℕ, List, [], ◌∷◌, ◌++◌, replicate}
use Rattle.pcm_format.specs.declared.format.Format.TheVariants.{U8, S24Be}
use Rattle.pcm_format.specs.declared.layout.Layout.TheVariants.{One, Two}
use Rattle.pcm_format.specs.declared.settings.Settings.{Settings}
use Rattle.pcm_rows.specs.Calls.{little_endian}
use Rattle.pcm_rows.specs.ClientRates.{step_body}
use Rattle.pcm_rows.specs.PlanRows.{sixteen_bits}

-- two channels of 16 bits
abbrev pub stereo_at : ℕ → Settings
stereo_at rate = sixteen_bits Two rate

-- one channel of 16 bits
abbrev pub mono_at : ℕ → Settings
mono_at rate = sixteen_bits One rate

-- one channel of unsigned bytes
abbrev pub unsigned_at : ℕ → Settings
unsigned_at rate = record { format = U8; layout = One; rate = rate }

-- one channel of 24 bits with the highest byte first
abbrev pub wide_at : ℕ → Settings
wide_at rate = record { format = S24Be; layout = One; rate = rate }

-- 1 to 5 in one channel
abbrev pub five_body : List ℕ
five_body = little_endian (1 ∷ 2 ∷ 3 ∷ 4 ∷ 5 ∷ [])

-- 0 and 100 in both channels, and three bytes of a frame more
abbrev pub cut_body : List ℕ
cut_body = step_body ++ 0x0a ∷ 0x0b ∷ 0x0c ∷ []

-- a hundredth of a second at 44100, in two channels of 16 bits
abbrev pub hundredth_body : List ℕ
hundredth_body = replicate 1764 0

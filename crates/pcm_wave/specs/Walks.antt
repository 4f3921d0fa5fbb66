-- A walk over the chunks: what it knows after each of them, and what a "data" chunk gives.
use Rattle.std.specs.Prelude.{ℕ, if◌then◌else◌, List, length, codes, Option, Some, None, Result, Ok, Err}
use Rattle.pcm_format.specs.declared.settings.Settings.{Settings}
use Rattle.pcm_wave.specs.declared.wave.Wave.{Wave}
use Rattle.pcm_wave.specs.declared.wave.WaveFault.{WaveFault}
use Rattle.pcm_wave.specs.declared.wave.WaveFault.TheVariants.{NoFormat, NoData}
use Rattle.pcm_wave.specs.Chunks.{stands_at, has_body, next_place}
use Rattle.pcm_wave.specs.Waves.{format_told, body_told}

-- settings that are known now
abbrev pub as_known : Result Settings WaveFault → Result (Option Settings) WaveFault
as_known (Ok settings) = Ok (Some settings)
as_known (Err fault) = Err fault

-- the settings that are known after a chunk: those of the first "fmt " chunk
abbrev pub known_behind : List ℕ → Option Settings → ℕ → Result (Option Settings) WaveFault
known_behind bytes (Some settings) p = Ok (Some settings)
known_behind bytes None p = if stands_at bytes p (codes "fmt ") then as_known (format_told bytes p) else Ok None

-- the place after a chunk: the end of the bytes, where its body isn't all there
abbrev pub place_behind : List ℕ → ℕ → ℕ
place_behind bytes p = if has_body bytes p then next_place bytes p else length bytes

-- what the "data" chunk at a place gives
abbrev pub wave_given : List ℕ → Option Settings → ℕ → Result Wave WaveFault
wave_given bytes None p = Err NoFormat
wave_given bytes (Some settings) p = body_told bytes settings p

-- what is missing where a walk ends
abbrev pub missing : Option Settings → WaveFault
missing None = NoFormat
missing (Some settings) = NoData

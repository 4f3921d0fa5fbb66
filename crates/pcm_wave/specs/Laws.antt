-- What is read of a header and a body, whatever bytes follow.
use Rattle.std.specs.Prelude.{◌≡◌, ◌≤◌, ℕ, List, ◌++◌, length, take, drop, Ok}
use Rattle.pcm_format.specs.declared.settings.Settings.{Settings}
use Rattle.pcm_format.specs.declared.settings.TheConstants.{RATE_LEAST, RATE_MOST}
use Rattle.pcm_wave.specs.Headers.{IsBody, IsWaveFormat, body_size, header_of}
use Rattle.pcm_wave.specs.Waves.{wave_of, wave_with}

-- the same settings are read back, and where the body stands
abbrev pub IsReadBack : Settings → ℕ → List ℕ → Type 0
IsReadBack settings frames body = (rest : List ℕ) → IsWaveFormat settings.format
    → RATE_LEAST ≤ settings.rate → settings.rate ≤ RATE_MOST
    → IsBody settings frames → length body ≡ body_size settings frames
    → wave_of (header_of settings frames ++ body ++ rest) ≡ Ok (wave_with settings 44 (length body))

-- the body stands there
abbrev pub BodyStands : Settings → ℕ → List ℕ → Type 0
BodyStands settings frames body = (rest : List ℕ)
    → take (length body) (drop 44 (header_of settings frames ++ body ++ rest)) ≡ body

-- Each wave that is read keeps the limits: its rate, its format, and a body within the bytes.
use Rattle.std.proofs.Common.{◌≡◌, ℕ, ◌+◌, ◌-◌, ◌≤◌, Bool, true, false, nat_le, nat_eq, ◌==◌, ◌&&◌, ◌||◌, cond, List, length, min, Option, Some, None, Result, Ok, Err, IfOk, inl, inr, arith, codes, refl, subst}
use Rattle.std.specs.Option.{IfSome}
use Rattle.std.proofs.lemmas.Bool.Decides.{nat_tests}
use Rattle.pcm_format.specs.declared.format.Format.{Format}
use Rattle.pcm_format.specs.declared.format.Format.TheVariants.{U8, S16Le, S24Le, S32Le}
use Rattle.pcm_format.specs.declared.layout.Layout.{Layout}
use Rattle.pcm_format.specs.declared.settings.Settings.{Settings}
use Rattle.pcm_format.specs.declared.settings.TheConstants.{RATE_LEAST, RATE_MOST}
use Rattle.pcm_format.specs.Frames.{frame_bytes}
use Rattle.pcm_format.specs.Layouts.{layout_of}
use Rattle.pcm_wave.specs.declared.wave.Wave.{Wave}
use Rattle.pcm_wave.specs.declared.wave.WaveFault.{WaveFault}
use Rattle.pcm_wave.specs.declared.wave.WaveFault.TheVariants.{NotRiff, NoFormat, Truncated}
use Rattle.pcm_wave.specs.Chunks.{number_at, size_at, body_begin, has_body, chunk_place, is_riff}
use Rattle.pcm_wave.specs.Headers.{IsWaveFormat}
use Rattle.pcm_wave.specs.Waves.{wave_of, wave_at, wave_with, settings_of, settings_told, settings_from, checked, format_of_bits, format_told, or_unsupported, is_pcm, open_size, body_behind, stands_before}

-- settings that a wave may have
pub record IsRead (settings : Settings) : Type 0 where
  pub least : RATE_LEAST ≤ settings.rate
  pub most : settings.rate ≤ RATE_MOST
  pub format : IsWaveFormat settings.format

-- what a test lets through
IfSome-tested : {A : Type 0} (test : Bool) (value : Option A) (P : A → Type 0) → (test ≡ true → IfSome value P) → IfSome (cond test value None) P
IfSome-tested true value P holds = holds refl
IfSome-tested false value P holds = tt

IfSome-either : {A : Type 0} (test : Bool) (one : A) (other : Option A) (P : A → Type 0) → P one → IfSome other P → IfSome (cond test (Some one) other) P
IfSome-either true one other P here there = here
IfSome-either false one other P here there = there

IfOk-tested : {A E : Type 0} (test : Bool) (result : Result A E) (fault : E) (P : A → Type 0) → IfOk result P → IfOk (cond test result (Err fault)) P
IfOk-tested true result fault P holds = holds
IfOk-tested false result fault P holds = tt

-- ---- the settings

format_of_bits-wave : (bits : ℕ) → IfSome (format_of_bits bits) IsWaveFormat
format_of_bits-wave bits =
    IfSome-either (bits == 8) U8 _ IsWaveFormat (inl refl)
    (IfSome-either (bits == 16) S16Le _ IsWaveFormat (inr (inl refl))
    (IfSome-either (bits == 24) S24Le _ IsWaveFormat (inr (inr (inl refl)))
    (IfSome-either (bits == 32) S32Le None IsWaveFormat (inr (inr (inr refl))) tt)))

checked-read : (settings : Settings) (align : ℕ) → IsWaveFormat settings.format → IfSome (checked settings align) IsRead
checked-read settings align is =
    IfSome-tested (nat_le RATE_LEAST settings.rate && (nat_le settings.rate RATE_MOST && nat_eq (frame_bytes settings) align)) (Some settings) IsRead
    (λ passed. record { least = grind (arith, nat_tests); most = grind (arith, nat_tests); format = is })

settings_from-read : (format : Option Format) (layout : Option Layout) (rate align : ℕ) → IfSome format IsWaveFormat → IfSome (settings_from format layout rate align) IsRead
settings_from-read None layout rate align is = tt
settings_from-read (Some format) None rate align is = tt
settings_from-read (Some format) (Some layout) rate align is = checked-read (record { format = format; layout = layout; rate = rate }) align is

settings_told-read : (bytes : List ℕ) (at size : ℕ) → IfSome (settings_told bytes at size) IsRead
settings_told-read bytes at size =
    IfSome-tested (nat_le 16 size && is_pcm bytes at size) _ IsRead
    (λ _. settings_from-read (format_of_bits (number_at bytes (at + 14) 2)) (layout_of (number_at bytes (at + 2) 2)) (number_at bytes (at + 4) 4) (number_at bytes (at + 12) 2)
    (format_of_bits-wave (number_at bytes (at + 14) 2)))

or_unsupported-read : (told : Option Settings) → IfSome told IsRead → IfOk (or_unsupported told) IsRead
or_unsupported-read None is = tt
or_unsupported-read (Some settings) is = is

format_told-read : (bytes : List ℕ) (p : ℕ) → IfOk (format_told bytes p) IsRead
format_told-read bytes p =
    let told = settings_told bytes (body_begin p) (size_at bytes p) in
    IfOk-tested (has_body bytes p) (or_unsupported told) Truncated IsRead (or_unsupported-read told (settings_told-read bytes (body_begin p) (size_at bytes p)))

-- ---- the wave

abbrev IsReadWave : Wave → Type 0
IsReadWave wave = IsRead (settings_of wave)

body_behind-read : (bytes : List ℕ) (told : Result Settings WaveFault) (body : Option ℕ) → IfOk told IsRead → IfOk (body_behind bytes told body) IsReadWave
body_behind-read bytes (Err fault) body is = tt
body_behind-read bytes (Ok settings) None is = tt
body_behind-read bytes (Ok settings) (Some p) is =
    IfOk-tested (has_body bytes p || nat_le open_size (size_at bytes p)) (Ok (wave_with settings (body_begin p) (min (size_at bytes p) (length bytes - body_begin p)))) Truncated IsReadWave is

wave_at-read : (bytes : List ℕ) (place body : Option ℕ) → IfOk (wave_at bytes place body) IsReadWave
wave_at-read bytes None body = tt
wave_at-read bytes (Some p) body =
    elim (stands_before body p) as (λ b. IfOk (cond b (Err NoFormat) (body_behind bytes (format_told bytes p) body)) IsReadWave)
    [ true ↦ tt | false ↦ body_behind-read bytes (format_told bytes p) body (format_told-read bytes p) ]

wave_of-read : (bytes : List ℕ) → IfOk (wave_of bytes) IsReadWave
wave_of-read bytes =
    let place = chunk_place bytes (codes "fmt ") in
    let body = chunk_place bytes (codes "data") in
    IfOk-tested (is_riff bytes) (wave_at bytes place body) NotRiff IsReadWave (wave_at-read bytes place body)

-- the settings of a wave are within the limits
pub settings-read : (bytes : List ℕ) (wave : Wave) → wave_of bytes ≡ Ok wave → IsRead (settings_of wave)
settings-read bytes wave is = subst (λ r. IfOk r IsReadWave) is (wave_of-read bytes)

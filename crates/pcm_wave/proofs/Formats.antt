-- The test of a wave's format accepts only the formats that waves have.
use Rattle.std.proofs.Common.{◌≡◌, true, inl, inr, refl}
use Rattle.pcm_format.specs.declared.format.Format.{Format}
use Rattle.pcm_format.specs.declared.format.Format.TheVariants.{U8, S8, S16Le, S16Be, U16Le, U16Be, S24Le, S24Be, U24Le, U24Be, S32Le, S32Be, U32Le, U32Be}
use Rattle.pcm_wave.specs.Formats.{is_wave_format}
use Rattle.pcm_wave.specs.Headers.{IsWaveFormat}

pub wave-format : (format : Format) → is_wave_format format ≡ true → IsWaveFormat format
wave-format U8 e = inl refl
wave-format S8 e = cc
wave-format S16Le e = inr (inl refl)
wave-format S16Be e = cc
wave-format U16Le e = cc
wave-format U16Be e = cc
wave-format S24Le e = inr (inr (inl refl))
wave-format S24Be e = cc
wave-format U24Le e = cc
wave-format U24Be e = cc
wave-format S32Le e = inr (inr (inr refl))
wave-format S32Be e = cc
wave-format U32Le e = cc
wave-format U32Be e = cc

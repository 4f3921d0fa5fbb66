-- What was kept of a feeder, and one that goes on from it.
use Rattle.std.proofs.Common.{◌≡◌, ◌<◌, ◌+◌, ◌*◌, ◌%◌, ℕ, ℤ, List, [], ◌∷◌, length, replicate, refl, sym, ap, subst, ◌∙◌, arith}
use Rattle.std.proofs.Math.Nat.{mod-lt, mul_assoc, mul-mod_left, add-mul-mod_self_right, zero-mod, dvd_of_mod-eq-zero, mod-mod_of_dvd}
use Rattle.pcm_rate.specs.declared.rate.Rate.{Rate}
use Rattle.pcm_rate.specs.Rates.{unchanged}
use Rattle.pcm_format.specs.Frames.{Frame}
use Rattle.pcm_feeder.specs.declared.stage.Progress.{Progress}
use Rattle.pcm_feeder.specs.declared.stage.Spec.{Spec}
use Rattle.pcm_feeder.specs.Fractions.{IsPhase}
use Rattle.pcm_feeder.specs.Kept.{Kept, fresh, resumed, CanResume, IsFitted, IsKeptAs}
use Rattle.pcm_feeder.specs.Laws.{KeepsNothing}
use Rattle.pcm_feeder.specs.Limits.{IsSpec}
use Rattle.pcm_feeder.specs.Stages.{channels_in, history, rate_of}
use Rattle.pcm_feeder.specs.Streams.{frames_of, interleaved, silence}
use Rattle.pcm_feeder.proofs.Frames.{frames_of-interleaved, length-interleaved}
use Rattle.pcm_feeder.proofs.Driven.{channels_in-above}

-- ---- phases

-- what divides both sides of a rate and a phase divides the phase some outputs on
parts-after : (src dst s d f phase n : ℕ) → src ≡ s * f → dst ≡ d * f → phase % f ≡ 0 → (phase + n * src) % dst % f ≡ 0
parts-after src dst s d f phase n src_is dst_is parts =
    mod-mod_of_dvd f (phase + n * src) (dvd_of_mod-eq-zero f (ap (λ z. z % f) dst_is ∙ mul-mod_left d f))
    ∙ ap (λ z. (phase + n * z) % f) src_is
    ∙ ap (λ z. (phase + z) % f) (sym (mul_assoc n s f))
    ∙ add-mul-mod_self_right phase (n * s) f
    ∙ parts

pub phase-after : (rate : Rate) (phase n : ℕ) → 0 < rate.dst → IsPhase rate phase → IsPhase rate ((phase + n * rate.src) % rate.dst)
phase-after rate phase n above at = record {
  below = mod-lt (phase + n * rate.src) above;
  parts = λ s d common. parts-after rate.src rate.dst s d common.factor phase n common.src_is common.dst_is (at.parts s d common);
}

-- the begin of a stream
pub phase-first : (rate : Rate) → 0 < rate.dst → IsPhase rate 0
phase-first rate above = record { below = above; parts = λ s d common. zero-mod common.factor }

-- and after some outputs
pub phase-behind : (rate : Rate) (n : ℕ) → 0 < rate.dst → IsPhase rate (n * rate.src % rate.dst)
phase-behind rate n above =
    let same : 0 + n * rate.src ≡ n * rate.src = omega arith in
    subst (λ z. IsPhase rate (z % rate.dst)) same (phase-after rate 0 n above (phase-first rate above))

-- ---- what is kept

-- two that have all alike
kept-alike : (one other : Kept) → one.spec ≡ other.spec → one.phase ≡ other.phase → one.ahead ≡ other.ahead → one.tail ≡ other.tail → one ≡ other
kept-alike one other spec phase ahead tail =
    ap (λ z. record { spec = z; phase = one.phase; ahead = one.ahead; tail = one.tail }) spec
    ∙ ap (λ z. record { spec = other.spec; phase = z; ahead = one.ahead; tail = one.tail }) phase
    ∙ ap (λ z. record { spec = other.spec; phase = other.phase; ahead = z; tail = one.tail }) ahead
    ∙ ap (λ z. record { spec = other.spec; phase = other.phase; ahead = other.ahead; tail = z }) tail

pub resumes : (spec : Spec) → IsSpec spec → (kept : Kept) (progress : Progress) (samples : List ℤ) → IsFitted spec kept → IsKeptAs kept progress samples
    → CanResume spec progress samples × (resumed spec progress samples ≡ kept)
resumes spec is kept progress samples fits told =
    let c = channels_in spec in
    let tail : frames_of c samples ≡ kept.tail = ap (frames_of c) told.tail ∙ frames_of-interleaved c kept.tail (channels_in-above spec is) fits.frames in
    let same : resumed spec progress samples ≡ kept = kept-alike (resumed spec progress samples) kept (sym fits.fitted) told.phase told.ahead tail in (
      record {
        limits = is;
        size = ap length told.tail ∙ length-interleaved c kept.tail fits.frames ∙ ap (λ n. n * c) fits.count;
        fitted = rw same fits;
      },
      same,
    )

-- ---- stages without a change of rate

none : (list : List Frame) → length list ≡ 0 → list ≡ []
none [] e = refl
none (frame ∷ list) e = absurd (omega (arith, e))

phase-none : (rate : Rate) (phase : ℕ) → rate ≡ unchanged → IsPhase rate phase → phase ≡ 0
phase-none rate phase level at = omega (arith, at.below, ap (λ r. r.dst) level)

-- these keep nothing, and go on as they begin
pub resumed-unrated : (spec : Spec) (progress : Progress) (samples : List ℤ) → KeepsNothing spec → IsFitted spec (resumed spec progress samples) → fresh spec ≡ resumed spec progress samples
resumed-unrated spec progress samples nothing fits =
    let c = channels_in spec in
    let gone = none (frames_of c samples) (fits.count ∙ nothing.history) in
    kept-alike (fresh spec) (resumed spec progress samples) refl
    (sym (phase-none (rate_of spec) progress.phase nothing.rate fits.phase))
    (sym (fits.unrated nothing.rate))
    (ap (λ n. replicate n (silence c)) nothing.history ∙ sym gone)

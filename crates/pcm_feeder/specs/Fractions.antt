-- A change of rate in lowest terms, and the bounds of what a converter counts.
use Rattle.std.specs.Prelude.{◌≡◌, ◌≤◌, ◌<◌, ◌+◌, ◌*◌, ◌/◌, ◌%◌, ℕ, ℤ, pos, neg_ℤ, ◌≤ℤ◌}
use Rattle.std.specs.Int.{IsGcd}
use Rattle.pcm_format.specs.declared.settings.TheConstants.{RATE_MOST}
use Rattle.pcm_num.specs.Fraction.{HasCommonFactor}
use Rattle.pcm_rate.specs.declared.rate.Rate.{Rate}
use Rattle.pcm_feeder.specs.Limits.{IsRate}

-- a change of rate within the limits of a converter
pub record IsPaced (rate : Rate) : Type 0 where
  pub source : IsRate rate.src
  pub target : IsRate rate.dst
  pub lookahead : rate.lookahead ≤ 32

-- the rate divided by its greatest factor: an output lies `whole` frames and `part` parts of `low`
-- past the one before
pub record IsFraction (rate : Rate) (factor low whole part : ℕ) : Type 0 where
  pub src : rate.src ≡ (whole * low + part) * factor
  pub dst : rate.dst ≡ low * factor
  pub lowest : IsGcd (whole * low + part) low 1
  pub below : part < low
  pub above : 0 < factor
  pub low_most : low ≤ RATE_MOST
  pub whole_most : whole ≤ RATE_MOST

-- the bounds of the frames eaten past those under the next output, however long the stream
pub record IsAhead (rate : Rate) (ahead : ℤ) : Type 0 where
  pub least : neg_ℤ (pos (rate.src / rate.dst)) ≤ℤ ahead
  pub most : ahead ≤ℤ pos (1 + rate.lookahead)

-- a phase that outputs of a rate have: less than a frame, and a multiple of whatever divides both sides of the rate
pub record IsPhase (rate : Rate) (phase : ℕ) : Type 0 where
  pub below : phase < rate.dst
  pub parts : (s d : ℕ) (common : HasCommonFactor rate.src rate.dst s d) → phase % common.factor ≡ 0

-- What a contract sees of a `Pace`: the rate as it was given, and the phase in parts of that rate.
use Rattle.std.specs.Prelude.{◌≡◌, ◌<◌, ◌*◌, ℕ, ℤ}
use Rattle.pcm_rate.specs.declared.rate.Rate.{Rate}
use Rattle.pcm_feeder.specs.declared.pace.Pace.{Pace}
use Rattle.pcm_feeder.specs.declared.pace.Step.{Step}
use Rattle.pcm_feeder.specs.Turns.{step_of, phase_of}

-- the rate
abbrev pub rate_by : Pace → Rate
rate_by pace = pace.rate

-- how far the next output lies past the frame under it, in parts of the rate's dst
abbrev pub phase_by : Pace → ℕ
phase_by pace = pace.phase * pace.factor

-- how many frames were eaten, from the one under the next output on
abbrev pub ahead_by : Pace → ℤ
ahead_by pace = pace.ahead

-- what the rate was divided by, and the dst that is left
abbrev pub factor_of : Pace → ℕ
factor_of pace = pace.factor

abbrev pub parts_of : Pace → ℕ
parts_of pace = pace.dst

-- where output j from now lies
pub record IsStep (pace : Pace) (step : Step) (j : ℕ) : Type 0 where
  pub frames : step.frames ≡ step_of (rate_by pace) (phase_by pace) j
  pub phase : step.phase * factor_of pace ≡ phase_of (rate_by pace) (phase_by pace) j
  pub below : step.phase < parts_of pace

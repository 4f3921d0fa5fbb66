-- A walk from output to output in one feed: what it needs, and what it has done.
use Rattle.std.specs.Prelude.{◌≡◌, ◌<◌, ◌≤◌, ◌*◌, ◌^◌, ℕ, ℤ, List, length}
use Rattle.pcm_feeder.specs.declared.pace.Pace.{Pace}
use Rattle.pcm_feeder.specs.declared.pace.Step.{Step}
use Rattle.pcm_feeder.specs.declared.stage.Moved.{Moved}
use Rattle.pcm_feeder.specs.Filters.{Filters}
use Rattle.pcm_feeder.specs.Pace.{rate_by, factor_of, parts_of, IsStep}
use Rattle.feed_rate.specs.Methods.{channels_by, lookahead_by, HasFilter}
use Rattle.feed_rate.specs.Outputs.{Seen, tail_past, AreEnough, PutsNext}

-- a feed begins, its frames and the filter are there, and those to be eaten allow the outputs
pub record CanWalk (pace : Pace) (seen : Seen) (tables : Filters) (input : List ℤ) (moved : Moved)
    (output : List ℤ) : Type 0 where
  pub level : (rate_by pace).lookahead ≡ lookahead_by seen.method
  pub rested : seen.passed ≡ 0
  pub filter : HasFilter seen.method tables
  pub room : moved.given * channels_by seen.method ≤ length output
  pub there : moved.eaten * channels_by seen.method ≤ length input
  pub enough : AreEnough pace moved.eaten moved.given

-- so many parts of the whole are one part of any step's phase
abbrev pub IsFactor : Pace → ℕ → Type 0
IsFactor pace factor = (phase : ℕ) → phase < parts_of pace → phase * factor ≡ phase * factor_of pace

-- the next outputs stand at the front, the frames eaten are taken in, and the feed has ended
pub record HasWalked (pace : Pace) (before after : Seen) (tables : Filters) (input : List ℤ)
    (moved : Moved) (old new : List ℤ) (next : Step) : Type 0 where
  pub frames : PutsNext pace before tables input moved.given old new
  pub tail : after.tail ≡ tail_past before input moved.eaten
  pub method : after.method ≡ before.method
  pub rested : after.passed ≡ 0
  pub step : IsStep pace next moved.given
  pub short : next.frames < 2 ^ 62

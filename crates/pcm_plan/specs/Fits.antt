-- What holds of every plan: its stages fit each other.
use Rattle.std.specs.Prelude.{◌≡◌, ◌≢◌, ◌≤◌, ◌<◌, ℕ, List, [], ◌∷◌, length, All}
use Rattle.std.specs.Int.{IsGcd}
use Rattle.pcm_num.specs.Fraction.{HasCommonFactor}
use Rattle.pcm_num.specs.Limit.{FitsBits}
use Rattle.pcm_format.specs.Frames.{Frame}
use Rattle.pcm_format.specs.Layouts.{channels_of}
use Rattle.pcm_rate.specs.declared.rate.Rate.{Rate}
use Rattle.pcm_rate.specs.Rates.{unchanged}
use Rattle.pcm_feeder.specs.declared.kind.Kind.TheVariants as kinds
use Rattle.pcm_feeder.specs.declared.stage.Spec.{Spec}
use Rattle.pcm_feeder.specs.declared.stage.Spec.TheVariants.{Hold, Linear, Poly, Volume}
use Rattle.pcm_feeder.specs.Filters.{Filters}
use Rattle.pcm_feeder.specs.Kinds.{kind_of}
use Rattle.pcm_feeder.specs.Limits.{IsSpec, HasTable}
use Rattle.pcm_feeder.specs.Stages.{rate_of, channels_in, channels_out, history}
use Rattle.pcm_plan.specs.declared.plan.TheConstants.{STAGES}
use Rattle.pcm_plan.specs.Plans.{PlanSeen, rate_in_plan}

-- each stage takes the channels that the one before it gives, from the first count to the last
abbrev pub Follow : ℕ → List Spec → ℕ → Type 0
Follow from [] to = from ≡ to
Follow from (spec ∷ specs) to = (channels_in spec ≡ from) × Follow (channels_out spec) specs to

-- no two stages are of one kind
abbrev pub AreDistinct : List Spec → Type 0
AreDistinct [] = Unit {0}
AreDistinct (spec ∷ specs) = All (λ other. kind_of spec ≢ kind_of other) specs × AreDistinct specs

-- a stage gives a frame for each frame
abbrev pub IsUnrated : Spec → Type 0
IsUnrated spec = rate_of spec ≡ unchanged

-- one stage at most changes the rate
abbrev pub HaveOneRate : List Spec → Type 0
HaveOneRate [] = Unit {0}
HaveOneRate (Hold src dst channels ∷ specs) = All IsUnrated specs
HaveOneRate (Linear src dst channels ∷ specs) = All IsUnrated specs
HaveOneRate (Poly src dst channels table taps ∷ specs) = All IsUnrated specs
HaveOneRate (_ ∷ specs) = HaveOneRate specs

-- a stage turns each frame by itself: it keeps the rate, and no sound
pub record TurnsEach (spec : Spec) : Type 0 where
  pub unrated : IsUnrated spec
  pub nothing : history spec ≡ 0

-- after the volume, whose gain may change, each stage turns each frame by itself
abbrev pub GainIsLate : List Spec → Type 0
GainIsLate [] = Unit {0}
GainIsLate (Volume layout ∷ specs) = All TurnsEach specs
GainIsLate (_ ∷ specs) = GainIsLate specs

-- the stages of a plan fit each other and its ends, and are within their limits
pub record IsPlan (plan : PlanSeen) : Type 0 where
  pub follow : Follow (channels_of plan.source) plan.stages (channels_of plan.target)
  pub specs : All IsSpec plan.stages
  pub distinct : AreDistinct plan.stages
  pub one_rate : HaveOneRate plan.stages
  pub late_gain : GainIsLate plan.stages
  pub count : length plan.stages ≤ STAGES

-- what a plan keeps of its stages' rate: the rate, and its fraction in lowest terms
pub record IsKept (plan : PlanSeen) (rate : Rate) (frames outputs : ℕ) : Type 0 where
  pub fits : IsPlan plan
  pub rate_is : rate ≡ rate_in_plan plan
  pub same : HasCommonFactor rate.src rate.dst frames outputs
  pub lowest : IsGcd frames outputs 1
  pub frames_above : 0 < frames
  pub outputs_above : 0 < outputs

-- no stage has a gain
abbrev pub HaveNoVolume : List Spec → Type 0
HaveNoVolume specs = All (λ spec. kind_of spec ≢ kinds.Volume) specs

-- the tables have the filter of each stage
abbrev pub HaveTables : List Spec → Filters → Type 0
HaveTables specs tables = All (λ spec. HasTable spec tables) specs

-- each sample of frames has at most `bits` bits
abbrev pub HaveBits : ℕ → List Frame → Type 0
HaveBits bits frames = All (λ frame. All (FitsBits bits) frame) frames

-- What a chain keeps of the past: the samples of all its stages. With its counts, that is all that it goes on from.
use Rattle.std.specs.Prelude.{◌≡◌, ◌≤◌, ℕ, ◌+◌, ◌-◌, ◌*◌, ℤ, pos, List, [], ◌∷◌, ◌++◌, length, All}
use Rattle.pcm_format.specs.Frames.{Frame}
use Rattle.pcm_rate.specs.declared.rate.Rate.{Rate}
use Rattle.pcm_rate.specs.Rates.{need, unchanged}
use Rattle.pcm_feeder.specs.declared.kind.Kind.{Kind}
use Rattle.pcm_feeder.specs.declared.rack.SevenOf.{SevenOf}
use Rattle.pcm_feeder.specs.declared.stage.Progress.{Progress}
use Rattle.pcm_feeder.specs.declared.stage.Spec.{Spec}
use Rattle.pcm_feeder.specs.declared.stage.Spec.TheVariants.{Hold, Linear, Poly}
use Rattle.pcm_feeder.specs.declared.stage.TheConstants.{AT_REST}
use Rattle.pcm_feeder.specs.Filters.{Filters}
use Rattle.pcm_feeder.specs.Fractions.{IsAhead, IsPhase}
use Rattle.pcm_feeder.specs.Kept.{Kept, IsFitted}
use Rattle.pcm_feeder.specs.Limits.{IsSpec}
use Rattle.pcm_feeder.specs.Racks.{HaveKinds, marks_of}
use Rattle.pcm_feeder.specs.Stages.{channels_in, history, rate_of}
use Rattle.pcm_feeder.specs.Streams.{interleaved}
use Rattle.pcm_plan.specs.Fits.{AreDistinct}
use Rattle.pcm_plan.specs.declared.plan.TheConstants.{STAGES}
use Rattle.pcm_plan.specs.Plans.{PlanSeen, rate_in_plan}
use Rattle.pcm_chain.specs.declared.chain.ChainOf.{ChainOf}
use Rattle.pcm_chain.specs.Boxes.{kept_in, HaveFitted, KeepAllOthers}
use Rattle.pcm_chain.specs.Chains.{boxes_in, marks_in, plan_in, AreFitted, ChainStands, IsOfKinds}
use Rattle.pcm_chain.specs.Counts.{InTime}
use Rattle.pcm_chain.specs.Far.{ChainIsSoFar}

-- how many samples of the past a stage keeps
abbrev pub past_size : Spec → ℕ
past_size spec = history spec * channels_in spec

-- and all stages
abbrev pub past_sizes : List Spec → ℕ
past_sizes [] = 0
past_sizes (spec ∷ specs) = past_size spec + past_sizes specs

-- these samples, one stage after another
abbrev pub past_in : (Spec → Kept) → List Spec → List ℤ
past_in keeps [] = []
past_in keeps (spec ∷ specs) = interleaved (keeps spec).tail ++ past_in keeps specs

-- those of a chain
abbrev pub past_of : {B : Type 0} → (B → Kept) → ChainOf B → List ℤ
past_of kept chain = past_in (kept_in kept (boxes_in chain)) (plan_in chain).stages

-- a chain by this plan can be told that it has eaten and given so many frames, and keeps these samples of them
pub record CanTell (plan : PlanSeen) (eaten given : ℕ) (past : List ℤ) : Type 0 where
  pub in_time : InTime (rate_in_plan plan) (record { eaten = eaten; given = given })
  pub size : length past ≡ past_sizes plan.stages

-- a chain can be told it that has the boxes of a rack
pub record CanBeTold {B : Type 0} (kind : B → Kind) (plan : PlanSeen) (eaten given : ℕ) (past : List ℤ) (chain : ChainOf B) : Type 0 where
  pub kinds : IsOfKinds kind chain
  pub can : CanTell plan eaten given past

-- What it is then: it goes by the plan, with each box in its place, is so far, and keeps these samples.
pub record HasTold {B : Type 0} (kind : B → Kind) (kept : B → Kept) (mark : B → ℕ) (plan : PlanSeen)
    (eaten given : ℕ) (past : List ℤ) (old new : ChainOf B) : Type 0 where
  pub plan_is : plan_in new ≡ plan
  pub kinds : IsOfKinds kind new
  pub marks : marks_in mark new ≡ marks_in mark old
  pub fitted : AreFitted kept new
  pub keeps : past_of kept new ≡ past
  pub far : (tables : Filters) → ChainIsSoFar kept tables new eaten (need (rate_in_plan plan) given - eaten) given

-- ---- its stages

-- the progress of a stage, where its converter has this one: a stage that keeps the rate is at rest
abbrev pub progress_in : Spec → Progress → Progress
progress_in (Hold src dst channels) progress = progress
progress_in (Linear src dst channels) progress = progress
progress_in (Poly src dst channels table taps) progress = progress
progress_in _ progress = AT_REST

-- a progress within the bounds of a rate
pub record IsProgressWithin (rate : Rate) (progress : Progress) : Type 0 where
  pub phase : IsPhase rate progress.phase
  pub ahead : IsAhead rate progress.ahead
  pub unrated : rate ≡ unchanged → progress.ahead ≡ pos 0

-- each stage can have its progress
abbrev pub CanHaveProgress : Progress → List Spec → Type 0
CanHaveProgress progress specs = All (λ spec. IsProgressWithin (rate_of spec) (progress_in spec progress)) specs

-- so few stages as a plan has, within their limits
pub record AreFewStages (specs : List Spec) : Type 0 where
  pub limits : All IsSpec specs
  pub few : length specs ≤ STAGES

-- what the boxes of stages keep has this room
pub record CanKeepAll {B : Type 0} (kept : B → Kept) (boxes : SevenOf B) (specs : List Spec) (past : List ℤ) : Type 0 where
  pub limits : All IsSpec specs
  pub fitted : HaveFitted kept boxes specs
  pub size : length past ≡ past_sizes specs

-- the boxes of stages can be told these samples, and how far the converter among them is
pub record CanTellAll {B : Type 0} (kind : B → Kind) (specs : List Spec) (progress : Progress) (past : List ℤ)
    (boxes : SevenOf B) : Type 0 where
  pub kinds : HaveKinds kind boxes
  pub limits : All IsSpec specs
  pub distinct : AreDistinct specs
  pub bounds : CanHaveProgress progress specs
  pub size : length past ≡ past_sizes specs

-- a stage is fitted, and as far as its progress says
pub record GoesBy (progress : Progress) (spec : Spec) (kept : Kept) : Type 0 where
  pub fitted : IsFitted spec kept
  pub phase : kept.phase ≡ (progress_in spec progress).phase
  pub ahead : kept.ahead ≡ (progress_in spec progress).ahead

-- What the boxes of stages are then: each is in its place, goes by its progress, and they keep these samples. The others keep
-- what they kept.
pub record HaveTold {B : Type 0} (kind : B → Kind) (kept : B → Kept) (mark : B → ℕ) (specs : List Spec)
    (progress : Progress) (past : List ℤ) (old new : SevenOf B) : Type 0 where
  pub kinds : HaveKinds kind new
  pub marks : marks_of mark new ≡ marks_of mark old
  pub others : KeepAllOthers kept specs old new
  pub go : All (λ spec. GoesBy progress spec (kept_in kept new spec)) specs
  pub keeps : past_in (kept_in kept new) specs ≡ past

-- ---- two chains

-- two chains by one plan keep the same samples of the past
pub record ChainsAreAlike {B : Type 0} (kept : B → Kept) (one other : ChainOf B) : Type 0 where
  pub plan : plan_in other ≡ plan_in one
  pub keeps : past_of kept other ≡ past_of kept one

-- whatever frames the one has eaten, of this count, the other has eaten too
abbrev pub StandsAlike : {B : Type 0} → (B → Kept) → ℕ → ℕ → ChainOf B → ChainOf B → Type 0
StandsAlike kept eaten given one other = (tables : Filters) (x : List Frame) (zeros : ℕ) → length x ≡ eaten
    → ChainStands kept tables one x zeros given → ChainStands kept tables other x zeros given

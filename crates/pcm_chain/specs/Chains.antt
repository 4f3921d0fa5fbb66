-- What a chain stands for: the frames that went into it, and what each of its stages made of them.
use Rattle.std.specs.Prelude.{◌≡◌, ◌<◌, ℕ, ◌-◌, List, [], ◌∷◌, ◌++◌, length, replicate, slice_index_or}
use Rattle.pcm_format.specs.Frames.{Frame}
use Rattle.pcm_format.specs.Layouts.{channels_of}
use Rattle.pcm_feeder.specs.declared.kind.Kind.{Kind}
use Rattle.pcm_feeder.specs.declared.rack.RackOf.{RackOf}
use Rattle.pcm_feeder.specs.declared.rack.SevenOf.{SevenOf}
use Rattle.pcm_feeder.specs.declared.stage.Gain.{Gain}
use Rattle.pcm_feeder.specs.declared.stage.Spec.{Spec}
use Rattle.pcm_feeder.specs.Filters.{Filters}
use Rattle.pcm_feeder.specs.Kept.{Kept, StandsFor}
use Rattle.pcm_feeder.specs.Racks.{HaveKinds, boxes_of, marks_of}
use Rattle.pcm_feeder.specs.Stages.{channels_in, channels_out, conv}
use Rattle.pcm_feeder.specs.Streams.{Stream, silence, stream_of, HaveChannels}
use Rattle.pcm_rate.specs.Rates.{need}
use Rattle.pcm_plan.specs.Plans.{PlanSeen, rate_in_plan}
use Rattle.pcm_plan.specs.Fits.{IsPlan}
use Rattle.pcm_chain.specs.Boxes.{kept_in, HaveFitted}
use Rattle.pcm_chain.specs.Counts.{StandFor}
use Rattle.pcm_chain.specs.declared.counts.Counts.{Counts}
use Rattle.pcm_chain.specs.declared.chain.ChainOf.{ChainOf}

-- the boxes of a chain
abbrev pub boxes_in : {B : Type 0} → ChainOf B → SevenOf B
boxes_in chain = chain.boxes

-- each box of a chain is of its place's kind
abbrev pub IsOfKinds : {B : Type 0} → (B → Kind) → ChainOf B → Type 0
IsOfKinds kind chain = HaveKinds kind (boxes_in chain)

-- the marks of its boxes
abbrev pub marks_in : {B : Type 0} → (B → ℕ) → ChainOf B → SevenOf ℕ
marks_in mark chain = marks_of mark (boxes_in chain)

-- each of its boxes is that of a rack, in its place
abbrev pub HasRack : {B : Type 0} → (B → ℕ) → RackOf B → ChainOf B → Type 0
HasRack mark rack chain = marks_in mark chain ≡ marks_of mark (boxes_of rack)

-- the plan of a chain
abbrev pub plan_in : {B : Type 0} → ChainOf B → PlanSeen
plan_in chain = chain.plan

-- the counts of a chain
abbrev pub counts_in : {B : Type 0} → ChainOf B → Counts
counts_in chain = chain.counts

-- each stage of a chain's plan has its box fitted to it
abbrev pub AreFitted : {B : Type 0} → (B → Kept) → ChainOf B → Type 0
AreFitted kept chain = HaveFitted kept (boxes_in chain) (plan_in chain).stages

-- a chain goes on by its plan, with each box in its place and those of its stages fitted
pub record StaysFitted {B : Type 0} (kind : B → Kind) (kept : B → Kept) (old new : ChainOf B) : Type 0 where
  pub plan : plan_in new ≡ plan_in old
  pub kinds : IsOfKinds kind old → IsOfKinds kind new
  pub fitted : AreFitted kept new

-- a frame is output k of a stage over a stream, at some gain
abbrev pub IsOutput : Spec → Filters → Stream → ℕ → Frame → Type 0
IsOutput spec tables x k frame = (gain : Gain) × (frame ≡ conv spec tables gain x k)

-- what a stage has given of the frames x: each is its output, at the gain that held then
pub record HasGiven (spec : Spec) (tables : Filters) (x given : List Frame) : Type 0 where
  pub channels : HaveChannels (channels_out spec) given
  pub frames : (k : ℕ) (other : Frame) → k < length given
      → IsOutput spec tables (stream_of (channels_in spec) x) k (slice_index_or given k other)

-- stages that stand for the frames x: each has eaten what the one before it has given, and the last has given `given` frames
abbrev pub StagesStand : (Spec → Kept) → Filters → List Spec → List Frame → ℕ → Type 0
StagesStand keeps tables [] x given = length x ≡ given
StagesStand keeps tables (spec ∷ specs) x given =
    (middle : List Frame) × StandsFor spec tables (keeps spec) x (length middle) × HasGiven spec tables x middle × StagesStand keeps tables specs middle given

-- A chain that has eaten the frames x and then `zeros` frames of silence, and has given `given` frames. Silence is eaten only
-- as far as the frames given need it.
pub record ChainStands {B : Type 0} (kept : B → Kept) (tables : Filters) (chain : ChainOf B)
    (x : List Frame) (zeros given : ℕ) : Type 0 where
  pub fits : IsPlan (plan_in chain)
  pub frames : HaveChannels (channels_of (plan_in chain).source) x
  pub counts : StandFor (rate_in_plan (plan_in chain)) (counts_in chain) (length x) given
  pub silent : zeros ≡ need (rate_in_plan (plan_in chain)) given - length x
  pub stages : StagesStand (kept_in kept (boxes_in chain)) tables (plan_in chain).stages
      (x ++ replicate zeros (silence (channels_of (plan_in chain).source))) given

-- How far a chain is: how many frames it has eaten and given, whatever these were.
use Rattle.std.specs.Prelude.{◌≡◌, ℕ, ◌+◌, ◌-◌, List, [], ◌∷◌, replicate}
use Rattle.pcm_format.specs.Frames.{Frame}
use Rattle.pcm_feeder.specs.declared.stage.Spec.{Spec}
use Rattle.pcm_feeder.specs.Filters.{Filters}
use Rattle.pcm_feeder.specs.Kept.{Kept, past, IsFitted, StandsFor}
use Rattle.pcm_feeder.specs.Stages.{channels_in}
use Rattle.pcm_feeder.specs.Streams.{silence}
use Rattle.pcm_rate.specs.Rates.{need}
use Rattle.pcm_plan.specs.Plans.{rate_in_plan}
use Rattle.pcm_plan.specs.Fits.{IsPlan}
use Rattle.pcm_chain.specs.Boxes.{kept_in}
use Rattle.pcm_chain.specs.Chains.{boxes_in, counts_in, plan_in}
use Rattle.pcm_chain.specs.Counts.{StandFor}
use Rattle.pcm_chain.specs.declared.chain.ChainOf.{ChainOf}

-- silent frames, as many as a stage has eaten
abbrev pub silent_frames : Spec → ℕ → List Frame
silent_frames spec eaten = replicate eaten (silence (channels_in spec))

-- A feeder has eaten so many frames and given so many: it is within its bounds, and but for the past that it
-- keeps it stands for as many silent ones.
pub record IsSoFar (spec : Spec) (tables : Filters) (kept : Kept) (eaten given : ℕ) : Type 0 where
  pub fitted : IsFitted spec kept
  pub stands : StandsFor spec tables (record kept { tail = past spec tables (silent_frames spec eaten) }) (silent_frames spec eaten) given

-- stages are so far: each has eaten as many as the one before it has given
abbrev pub AreSoFar : (Spec → Kept) → Filters → List Spec → ℕ → ℕ → Type 0
AreSoFar keeps tables [] eaten given = eaten ≡ given
AreSoFar keeps tables (spec ∷ specs) eaten given =
    (middle : ℕ) × IsSoFar spec tables (keeps spec) eaten middle × AreSoFar keeps tables specs middle given

-- a chain that has eaten so many frames, and then `zeros` frames of silence, and has given so many
pub record ChainIsSoFar {B : Type 0} (kept : B → Kept) (tables : Filters) (chain : ChainOf B)
    (eaten zeros given : ℕ) : Type 0 where
  pub fits : IsPlan (plan_in chain)
  pub counts : StandFor (rate_in_plan (plan_in chain)) (counts_in chain) eaten given
  pub silent : zeros ≡ need (rate_in_plan (plan_in chain)) given - eaten
  pub stages : AreSoFar (kept_in kept (boxes_in chain)) tables (plan_in chain).stages (eaten + zeros) given

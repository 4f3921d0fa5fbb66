-- What a chain is that goes on where another one is.
use Rattle.std.specs.Prelude.{◌≡◌, ℕ, List}
use Rattle.pcm_format.specs.Frames.{Frame}
use Rattle.pcm_feeder.specs.declared.kind.Kind.{Kind}
use Rattle.pcm_feeder.specs.Filters.{Filters}
use Rattle.pcm_feeder.specs.Kept.{Kept}
use Rattle.pcm_chain.specs.declared.chain.ChainOf.{ChainOf}
use Rattle.pcm_chain.specs.Chains.{marks_in, plan_in, AreFitted, ChainStands, IsOfKinds}
use Rattle.pcm_chain.specs.Far.{ChainIsSoFar}
use Rattle.pcm_chain.specs.Gives.{GivesExactly}
use Rattle.pcm_chain.specs.Pushes.{HasRecorded}

-- whatever frames a chain stands for, another stands for too
abbrev pub StandsAs : {B : Type 0} → (B → Kept) → ChainOf B → ChainOf B → Type 0
StandsAs kept other chain = (tables : Filters) (x : List Frame) (zeros given : ℕ)
    → ChainStands kept tables other x zeros given → ChainStands kept tables chain x zeros given

-- however far a chain is, another is as far
abbrev pub IsAsFar : {B : Type 0} → (B → Kept) → ChainOf B → ChainOf B → Type 0
IsAsFar kept other chain = (tables : Filters) (eaten zeros given : ℕ)
    → ChainIsSoFar kept tables other eaten zeros given → ChainIsSoFar kept tables chain eaten zeros given

-- A chain goes on where another one is, by its plan, with each box in its place: it stands for the
-- same frames, has recorded the same, and has eaten as few.
pub record Resumes {B : Type 0} (kind : B → Kind) (kept : B → Kept) (mark : B → ℕ)
    (other old new : ChainOf B) : Type 0 where
  pub plan : plan_in new ≡ plan_in other
  pub kinds : IsOfKinds kind new
  pub marks : marks_in mark new ≡ marks_in mark old
  pub fitted : AreFitted kept new
  pub far : IsAsFar kept other new
  pub stands : StandsAs kept other new
  pub records : (tables : Filters) (x : List Frame)
      → HasRecorded kept tables other x → HasRecorded kept tables new x
  pub exactly : (tables : Filters) (x : List Frame) (given : ℕ)
      → GivesExactly kept tables other x given → GivesExactly kept tables new x given

-- The boxes of a chain by stage, and what each keeps.
use Rattle.std.specs.Prelude.{◌≡◌, ◌≢◌, ℕ, ℤ, List, All}
use Rattle.pcm_feeder.specs.declared.rack.SevenOf.{SevenOf}
use Rattle.pcm_feeder.specs.declared.stage.Progress.{Progress}
use Rattle.pcm_feeder.specs.declared.stage.Spec.{Spec}
use Rattle.pcm_feeder.specs.declared.stage.Spec.TheVariants.{Matrix, Hold, Linear, Poly, Volume, Depth, Eq}
use Rattle.pcm_feeder.specs.declared.kind.Kind.{Kind}
use Rattle.pcm_feeder.specs.Kinds.{kind_of}
use Rattle.pcm_feeder.specs.Kept.{Kept, IsFitted, resumed}
use Rattle.pcm_feeder.specs.Limits.{IsSpec}
use Rattle.pcm_feeder.specs.Racks.{HaveKinds, marks_of}
use Rattle.pcm_plan.specs.Fits.{AreDistinct}

-- what the box of a stage keeps
abbrev pub kept_in : {B : Type 0} → (B → Kept) → SevenOf B → Spec → Kept
kept_in kept boxes (Matrix from to) = kept boxes.matrix
kept_in kept boxes (Hold src dst channels) = kept boxes.hold
kept_in kept boxes (Linear src dst channels) = kept boxes.linear
kept_in kept boxes (Poly src dst channels table taps) = kept boxes.poly
kept_in kept boxes (Volume layout) = kept boxes.volume
kept_in kept boxes (Depth bits channels) = kept boxes.depth
kept_in kept boxes (Eq channels sections) = kept boxes.eq

-- each stage has its box fitted to it
abbrev pub HaveFitted : {B : Type 0} → (B → Kept) → SevenOf B → List Spec → Type 0
HaveFitted kept boxes specs = All (λ spec. IsFitted spec (kept_in kept boxes spec)) specs

-- a stage within its limits can be fitted: each box is of its place's kind
pub record CanFit {B : Type 0} (kind : B → Kind) (boxes : SevenOf B) (spec : Spec) : Type 0 where
  pub kinds : HaveKinds kind boxes
  pub limits : IsSpec spec

-- the boxes of other kinds than a stage's keep what they kept
abbrev pub KeepOthers : {B : Type 0} → (B → Kept) → Spec → SevenOf B → SevenOf B → Type 0
KeepOthers kept spec old new =
    (other : Spec) → kind_of other ≢ kind_of spec → kept_in kept new other ≡ kept_in kept old other

-- and those of other kinds than all these stages'
abbrev pub KeepAllOthers : {B : Type 0} → (B → Kept) → List Spec → SevenOf B → SevenOf B → Type 0
KeepAllOthers kept specs old new =
    (other : Spec) → All (λ spec. kind_of other ≢ kind_of spec) specs
    → kept_in kept new other ≡ kept_in kept old other

-- the boxes of a plan's stages can go on where others are: each is of its place's kind, and the others are fitted to the stages
pub record CanResumeAll {B : Type 0} (kind : B → Kind) (kept : B → Kept) (specs : List Spec)
    (boxes others : SevenOf B) : Type 0 where
  pub kinds : HaveKinds kind boxes
  pub limits : All IsSpec specs
  pub distinct : AreDistinct specs
  pub fitted : HaveFitted kept others specs

-- the boxes of stages keep what others keep
abbrev pub KeepAlike : {B : Type 0} → (B → Kept) → List Spec → SevenOf B → SevenOf B → Type 0
KeepAlike kept specs boxes others =
    All (λ spec. kept_in kept boxes spec ≡ kept_in kept others spec) specs

-- the boxes of stages went on where others are, and each stayed in its place
pub record HaveResumed {B : Type 0} (kind : B → Kind) (kept : B → Kept) (mark : B → ℕ) (specs : List Spec)
    (others old new : SevenOf B) : Type 0 where
  pub kinds : HaveKinds kind new
  pub alike : KeepAlike kept specs new others
  pub marks : marks_of mark new ≡ marks_of mark old

-- the box of a stage went on from what it was told, the others keep what they kept, and each stayed in its place
pub record HasResumed {B : Type 0} (kind : B → Kind) (kept : B → Kept) (mark : B → ℕ) (spec : Spec)
    (progress : Progress) (samples : List ℤ) (old new : SevenOf B) : Type 0 where
  pub kinds : HaveKinds kind new
  pub told : kept_in kept new spec ≡ resumed spec progress samples
  pub others : KeepOthers kept spec old new
  pub marks : marks_of mark new ≡ marks_of mark old

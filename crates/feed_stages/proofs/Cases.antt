-- The kinds of the seven stages, by their cases.
use Rattle.pcm_feeder.specs.declared.kind.Kind.{Kind}
use Rattle.pcm_feeder.specs.declared.kind.Kind.TheVariants as kinds
use Rattle.pcm_feeder.specs.declared.rack.SevenOf.{SevenOf}
use Rattle.pcm_feeder.specs.Racks.{HaveKinds}
use Rattle.feed_stages.specs.Stages.{by_stage}
use Rattle.feed_stages.specs.declared.stage.Stage.{Stage}

-- the kind of a stage, where each case holds one of its own kind
abbrev pub kind_by_case : Stage → Kind
kind_by_case stage = by_stage (λ _. kinds.Matrix) (λ _. kinds.Hold) (λ _. kinds.Linear) (λ _. kinds.Poly) (λ _. kinds.Volume) (λ _. kinds.Depth) (λ _. kinds.Eq) stage.of.value

-- each of seven such stages is of its place's kind
abbrev pub HaveTheirKinds : SevenOf Stage → Type 0
HaveTheirKinds = HaveKinds kind_by_case

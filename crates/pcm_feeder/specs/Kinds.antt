-- The kind of stage that a spec is for.
use Rattle.pcm_feeder.specs.declared.kind.Kind.{Kind}
use Rattle.pcm_feeder.specs.declared.kind.Kind.TheVariants as kinds
use Rattle.pcm_feeder.specs.declared.stage.Spec.{Spec}
use Rattle.pcm_feeder.specs.declared.stage.Spec.TheVariants.{Matrix, Hold, Linear, Poly, Volume, Depth, Eq}

-- the kind of feeder that a spec is for
abbrev pub kind_of : Spec → Kind
kind_of (Matrix from to) = kinds.Matrix
kind_of (Hold src dst channels) = kinds.Hold
kind_of (Linear src dst channels) = kinds.Linear
kind_of (Poly src dst channels table taps) = kinds.Poly
kind_of (Volume layout) = kinds.Volume
kind_of (Depth bits channels) = kinds.Depth
kind_of (Eq channels sections) = kinds.Eq

-- A stage of any kind as contracts see it: what its variant is seen as.
use Rattle.feed_stages.specs.declared.any.AnyOf.{AnyOf}
use Rattle.feed_stages.specs.declared.any.AnyOf.TheVariants.{Matrix, Hold, Linear, Poly, Volume, Depth, Eq}

-- what is seen of a stage, by what is seen of each type
abbrev pub by_stage : {M H L P V D E X : Type 0} → (M → X) → (H → X) → (L → X) → (P → X) → (V → X) → (D → X) → (E → X) → AnyOf M H L P V D E → X
by_stage matrix hold linear poly volume depth eq (Matrix stage) = matrix stage
by_stage matrix hold linear poly volume depth eq (Hold stage) = hold stage
by_stage matrix hold linear poly volume depth eq (Linear stage) = linear stage
by_stage matrix hold linear poly volume depth eq (Poly stage) = poly stage
by_stage matrix hold linear poly volume depth eq (Volume stage) = volume stage
by_stage matrix hold linear poly volume depth eq (Depth stage) = depth stage
by_stage matrix hold linear poly volume depth eq (Eq stage) = eq stage

-- How many bits a sample has at most that comes out of stages.
use Rattle.std.specs.Prelude.{ℕ, List, [], ◌∷◌}
use Rattle.pcm_feeder.specs.declared.stage.Spec.{Spec}
use Rattle.pcm_feeder.specs.declared.stage.Spec.TheVariants.{Depth}

-- out of one stage
abbrev pub bits_after : Spec → ℕ
bits_after (Depth bits channels) = bits
bits_after _ = 32

-- out of several: the last one decides
abbrev pub bits_left : List Spec → ℕ
bits_left [] = 32
bits_left (spec ∷ []) = bits_after spec
bits_left (spec ∷ next ∷ specs) = bits_left (next ∷ specs)

use Rattle.std.proofs.Common.{◌≡◌, ◌++◌, map, take, drop}
use Rattle.std.specs.Prelude.{All}
use Rattle.pcm_num.specs.Limit.{FitsBits}
use Rattle.pcm_format.specs.Formats.{bits_of}
use Rattle.pcm_format.specs.Samples.{at_full}
use Rattle.pcm_format.proofs.depth.bring_to_full.Given as goal

-- the samples before the index are changed, and the others, which fit, are still to change
abbrev pub invariant-loop-i : goal.invariant-loop-i
invariant-loop-i l =
    (take l.i l.samples ++ map (at_full (bits_of l.format)) (drop l.i l.samples) ≡ map (at_full (bits_of l.format)) l.fn.samples)
    × All (FitsBits (bits_of l.format)) (drop l.i l.samples)

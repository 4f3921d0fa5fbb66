use Rattle.std.proofs.Common.{◌≡◌, ◌++◌, take, drop}
use Rattle.std.specs.Prelude.{All}
use Rattle.pcm_num.specs.Limit.{FitsBits}
use Rattle.pcm_mix.specs.Mix.{mixed}
use Rattle.pcm_mix.proofs.mix.mix_samples.Given as goal

abbrev pub invariant-loop-at : goal.invariant-loop-at
invariant-loop-at l =
    All (FitsBits l.limits.bits) l.acc × (take l.at l.acc ++ mixed l.limits.bits (drop l.at l.acc) (drop l.at l.add) ≡ mixed l.limits.bits l.fn.acc l.fn.add)

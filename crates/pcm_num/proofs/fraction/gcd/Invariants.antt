use Rattle.std.proofs.Common.{◌<◌, ℕ}
use Rattle.std.specs.Int.{IsGcd}
use Rattle.pcm_num.proofs.fraction.gcd.Given as goal

-- what is left to walk has the divisor that was asked for
abbrev pub invariant-loop-y : goal.invariant-loop-y
invariant-loop-y l = ((g : ℕ) → IsGcd l.x l.y g → IsGcd l.fn.a l.fn.b g) × (0 < l.x)

abbrev pub decreases-loop-y : goal.decreases-loop-y
decreases-loop-y l = l.y

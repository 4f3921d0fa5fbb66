use Rattle.std.proofs.Common.{◌≡◌, ◌*◌, ◌^◌, take, pos, neg_ℤ, ◌≤ℤ◌}
use Rattle.feed_matrix.specs.Weights.{weighted_sum}
use Rattle.feed_matrix.proofs.matrix.weighted_sum.Given as goal

abbrev pub invariant-loop-at : goal.invariant-loop-at
invariant-loop-at l =
    (l.sum ≡ weighted_sum (take l.at l.row) (take l.at l.frame))
    × (neg_ℤ (pos (l.at * 2 ^ 47)) ≤ℤ l.sum) × (l.sum ≤ℤ pos (l.at * 2 ^ 47))

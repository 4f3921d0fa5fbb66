use Rattle.std.proofs.Common.{◌≡◌, length, take}
use Rattle.feed_matrix.specs.Weights.{row_of, AreAtMostOne}
use Rattle.feed_matrix.proofs.weight.row.Given as goal

abbrev pub invariant-loop-at : goal.invariant-loop-at
invariant-loop-at l =
    (length l.row ≡ 8)
    × (take l.at l.row ≡ take l.at (row_of l.from l.to l.target)) × AreAtMostOne l.row

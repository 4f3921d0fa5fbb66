use Rattle.std.proofs.Common.{◌≡◌, length, map, take, All}
use Rattle.pcm_format.specs.Layouts.{channels_of, positions_of}
use Rattle.feed_matrix.specs.Weights.{row_of, AreAtMostOne}
use Rattle.feed_matrix.proofs.weight.weights.Given as goal

abbrev pub invariant-loop-at : goal.invariant-loop-at
invariant-loop-at l =
    (length l.rows ≡ 8) × (All (λ row. length row ≡ 8) l.rows) × (All AreAtMostOne l.rows)
    × (map (take (channels_of l.from)) (take l.at l.rows) ≡ take l.at (map (row_of l.from l.to) (positions_of l.to)))

use Rattle.std.proofs.Common.{◌≡◌, All, length}
use Rattle.pcm_feeder.specs.Limits.{IsCoef}
use Rattle.feed_tests.proofs.cuts.filters.Given as goal

-- the first k coefficients are there
abbrev pub invariant-loop-k : goal.invariant-loop-k
invariant-loop-k l = record {
  count : length l.numbers.items ≡ l.k;
  range : All IsCoef l.numbers.items;
}

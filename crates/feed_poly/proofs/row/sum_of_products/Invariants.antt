use Rattle.std.proofs.Common.{◌≡◌, ◌*◌, ◌^◌, pos, neg_ℤ, ◌≤ℤ◌, take}
use Rattle.feed_poly.specs.Rows.{weighted}
use Rattle.feed_poly.proofs.row.sum_of_products.Given as goal

-- the sum of the first products
abbrev pub invariant-loop-at : goal.invariant-loop-at
invariant-loop-at l = record {
  sum : l.sum ≡ weighted (take l.at l.coefs) (take l.at l.samples);
  least : neg_ℤ (pos (l.at * 2 ^ 55)) ≤ℤ l.sum;
  most : l.sum ≤ℤ pos (l.at * 2 ^ 55);
}

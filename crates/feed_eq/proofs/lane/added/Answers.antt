-- The two products and their difference fit.
use Rattle.std.proofs.Common.{◌-ℤ◌, w32, w64}
use Rattle.std.proofs.lemmas.Int.{to_z-of_z}
use Rattle.feed_eq.proofs.Weights.{AreAdded, are-added}
use Rattle.feed_eq.proofs.lane.added.Goals as goal

-- the products
are : (c : goal.After-product-2) → AreAdded c.args.b c.args.a c.args.input c.args.output c.product.result c.product-2.result
are c =
    are-added c.args.b c.args.a c.args.input c.args.output c.product.result c.product-2.result c.requires.b c.requires.a c.ranges.input
    c.ranges.output
    (rw (to_z-of_z w32 c.args.b c.ranges.b, to_z-of_z w32 c.args.input c.ranges.input) at c.product.ensures)
    (rw (to_z-of_z w32 c.args.a c.ranges.a, to_z-of_z w32 c.args.output c.ranges.output) at c.product-2.ensures)

pub overflow_sub-result : goal.overflow_sub-result
overflow_sub-result c =
    let all = are c in
    rw (to_z-of_z w64 c.product.result all.first, to_z-of_z w64 c.product-2.result all.second) all.fits

pub returns-clause-value : goal.returns-clause-value
returns-clause-value c =
    let all = are c in
    rw (
      to_z-of_z w64 c.product.result all.first,
      to_z-of_z w64 c.product-2.result all.second,
      to_z-of_z w64
          (c.product.result -ℤ c.product-2.result) all.fits,
    ) all.value

pub returns-clause-bound : goal.returns-clause-bound
returns-clause-bound c =
    let all = are c in
    rw (
      to_z-of_z w64 c.product.result all.first,
      to_z-of_z w64 c.product-2.result all.second,
      to_z-of_z w64
          (c.product.result -ℤ c.product-2.result) all.fits,
    ) all.bound

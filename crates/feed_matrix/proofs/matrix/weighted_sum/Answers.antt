use Rattle.std.proofs.Common.{◌≡◌, ◌≤◌, ◌<◌, take, length, get_or, FitsSigned, to_z, of_z, w32, w64, pos, ◌+ℤ◌, ◌*ℤ◌, sym, ap, ◌∙◌, arith, rules}
use Rattle.std.proofs.lemmas.Int.{to_z-of_z, ints}
use Rattle.feed_matrix.specs.Weights.{weighted_sum}
use Rattle.feed_matrix.proofs.Weights.{weighted-low, weighted-high, weighted_sum-more}
use Rattle.feed_matrix.proofs.matrix.weighted_sum.Goals as goal

pub loop-at-preserved : goal.loop-at-preserved
loop-at-preserved c =
    let l = c.loop-at in
    let row = c.args.row.now in
    let frame = c.args.frame.now in
    let r = c.weighted-sum.result in
    let within : l.at < length row = omega (arith, c.loop-at-test.true, c.requires.lengths) in
    let sample_fits : FitsSigned w32 (get_or frame l.at (pos 0)) = search rules in
    let r_fits : FitsSigned w64 r = search rules in
    let is : r ≡ (pos (get_or row l.at 0) *ℤ get_or frame l.at (pos 0)) = simp to_z-of_z at c.weighted-sum.ensures in
    let most : get_or row l.at 0 ≤ 65536 = c.requires.limits l.at 0 within in
    let low = weighted-low (get_or row l.at 0) (get_or frame l.at (pos 0)) most sample_fits in
    let high = weighted-high (get_or row l.at 0) (get_or frame l.at (pos 0)) most sample_fits in
    let fits : FitsSigned w64 (to_z w64 l.sum-bits +ℤ to_z w64 (of_z w64 r)) = search rules in
    let total : to_z w64 (of_z w64 (to_z w64 l.sum-bits +ℤ to_z w64 (of_z w64 r))) ≡ (to_z w64 l.sum-bits +ℤ r) =
    to_z-of_z w64 (to_z w64 l.sum-bits +ℤ to_z w64 (of_z w64 r)) fits ∙ ap (λ z. to_z w64 l.sum-bits +ℤ z) (to_z-of_z w64 r r_fits) in (
      total ∙ ap (λ z. z +ℤ r) l.invariant.0 ∙ ap (λ z. weighted_sum (take l.at row) (take l.at frame) +ℤ z) is
          ∙ sym (weighted_sum-more row frame l.at within c.loop-at-test.true),
      omega (arith, ints, total, is, low, high, l.invariant.1),
      omega (arith, ints, total, is, low, high, l.invariant.2),
    )

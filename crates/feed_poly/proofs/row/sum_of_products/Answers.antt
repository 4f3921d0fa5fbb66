use Rattle.std.proofs.Common.{◌≡◌, ◌+◌, ◌-◌, ◌+ℤ◌, ◌*ℤ◌, ◌*◌, ◌^◌, get_or, pos, w32, w64, FitsSigned, to_z, ap, ◌∙◌, sym, rules, arith}
use Rattle.std.proofs.lemmas.Int.{to_z-of_z}
use Rattle.pcm_feeder.proofs.Products.{IsWithin, sample-within, fits-long, within-more}
use Rattle.feed_poly.proofs.Sums.{weighted-more, sum-within}
use Rattle.feed_poly.proofs.row.sum_of_products.Goals as goal

pub overflow_add-sum : goal.overflow_add-sum
overflow_add-sum c =
    let at = c.loop-at.at in
    let coef = get_or c.args.coefs.now at (pos 0) in
    let sample = get_or c.args.samples.now at (pos 0) in
    let sum = to_z w64 c.loop-at.sum-bits in
    let coef_fits : FitsSigned w32 coef = search rules in
    let sample_fits : FitsSigned w32 sample = search rules in
    let product : c.product-sum.result ≡ (coef *ℤ sample) = simp to_z-of_z at c.product-sum.ensures in
    let one : IsWithin (2 ^ 55) (coef *ℤ sample) = sample-within (2 ^ 24) coef sample (c.requires.range at (pos 0) c.loop-at-test.true)
    sample_fits in
    let before : IsWithin (at * 2 ^ 55) sum = record { least = c.loop-at.invariant.least; most = c.loop-at.invariant.most } in
    let after : IsWithin (2 ^ 63 - 1) (sum +ℤ (coef *ℤ sample)) = within-more ((at + 1) * 2 ^ 55) (2 ^ 63 - 1) (sum +ℤ (coef *ℤ sample))
    (omega (arith, c.loop-at-test.true, c.requires.count)) (sum-within sum (coef *ℤ sample) at before one) in
    let product_fits : FitsSigned w64 (coef *ℤ sample) = fits-long (coef *ℤ sample)
    (within-more (2 ^ 55) (2 ^ 63 - 1) (coef *ℤ sample) (omega arith) one) in
    rw (product, to_z-of_z w64 (coef *ℤ sample) product_fits) (fits-long (sum +ℤ (coef *ℤ sample)) after)

pub loop-at-preserved : goal.loop-at-preserved
loop-at-preserved c =
    let at = c.loop-at.at in
    let coefs = c.args.coefs.now in
    let samples = c.args.samples.now in
    let coef = get_or coefs at (pos 0) in
    let sample = get_or samples at (pos 0) in
    let sum = to_z w64 c.loop-at.sum-bits in
    let coef_fits : FitsSigned w32 coef = search rules in
    let sample_fits : FitsSigned w32 sample = search rules in
    let product : c.product-sum.result ≡ (coef *ℤ sample) = simp to_z-of_z at c.product-sum.ensures in
    let one : IsWithin (2 ^ 55) (coef *ℤ sample) = sample-within (2 ^ 24) coef sample (c.requires.range at (pos 0) c.loop-at-test.true)
    sample_fits in
    let before : IsWithin (at * 2 ^ 55) sum = record { least = c.loop-at.invariant.least; most = c.loop-at.invariant.most } in
    let next = sum-within sum (coef *ℤ sample) at before one in
    let after : IsWithin (2 ^ 63 - 1) (sum +ℤ (coef *ℤ sample)) = within-more ((at + 1) * 2 ^ 55) (2 ^ 63 - 1) (sum +ℤ (coef *ℤ sample))
    (omega (arith, c.loop-at-test.true, c.requires.count)) next in
    let product_fits : FitsSigned w64 (coef *ℤ sample) = fits-long (coef *ℤ sample)
    (within-more (2 ^ 55) (2 ^ 63 - 1) (coef *ℤ sample) (omega arith) one) in
    rw (
      product,
      to_z-of_z w64 (coef *ℤ sample) product_fits,
      to_z-of_z w64 (sum +ℤ (coef *ℤ sample))
          (fits-long (sum +ℤ (coef *ℤ sample)) after),
    ) (record {
      sum = ap (λ z. z +ℤ (coef *ℤ sample)) c.loop-at.invariant.sum
          ∙ sym (weighted-more coefs samples at c.loop-at-test.true (omega (arith, c.loop-at-test.true, c.requires.samples)));
      least = next.least;
      most = next.most;
    })

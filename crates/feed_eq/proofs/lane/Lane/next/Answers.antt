-- The sum fits, and it is scaled down.
use Rattle.std.proofs.Common.{◌≡◌, ◌+ℤ◌, ◌*ℤ◌, ℤ, w32, w64, FitsSigned, to_z, of_z, ap, ◌∙◌, sym, subst, rules, arith}
use Rattle.std.proofs.lemmas.Int.{to_z-of_z}
use Rattle.pcm_feeder.specs.declared.section.Section.{Section}
use Rattle.pcm_feeder.specs.Limits.{IsSection}
use Rattle.pcm_feeder.specs.Sums.{scaled_down}
use Rattle.feed_eq.specs.Added.{IsSumOf}
use Rattle.feed_eq.proofs.Weights.{AreBoth, are-both, coef-fits, sum-of-product}
use Rattle.feed_eq.proofs.lane.Lane.next.Goals as goal

-- the product of the sample is as it is computed
product-is : (s : Section) (x product : ℤ) → IsSection s → FitsSigned w32 x → product ≡ (to_z w32 (of_z w32 s.b0) *ℤ to_z w32 (of_z w32 x))
    → product ≡ (s.b0 *ℤ x)
product-is s x product is fits same = rw (to_z-of_z w32 s.b0 (coef-fits s.b0 is.b0), to_z-of_z w32 x fits) at same

-- and the sum fits
summed : (s : Section) (x product next : ℤ) → IsSection s → FitsSigned w32 x → product ≡ (to_z w32 (of_z w32 s.b0) *ℤ to_z w32 (of_z w32 x))
    → IsSumOf 4 next → AreBoth 1 4 product next
summed s x product next is fits same bound =
    are-both 1 4 product next (omega arith) (subst (IsSumOf 1) (sym (product-is s x product is fits same))
    (sum-of-product s.b0 x is.b0 fits)) bound

pub overflow_add-product : goal.overflow_add-product
overflow_add-product c =
    let both = summed c.args.section c.args.sample c.product.result c.args.self.next c.requires c.ranges.sample c.product.ensures
    c.args.self.next_bound in
    rw (to_z-of_z w64 c.product.result both.first, to_z-of_z w64 c.args.self.next both.second) both.fits

pub scaled_down-requires-clause-least : goal.scaled_down-requires-clause-least
scaled_down-requires-clause-least c =
    let both = summed c.args.section c.args.sample c.product.result c.args.self.next c.requires c.ranges.sample c.product.ensures
    c.args.self.next_bound in
    rw (
      to_z-of_z w64 c.product.result both.first,
      to_z-of_z w64 c.args.self.next both.second,
      to_z-of_z w64
          (c.product.result +ℤ c.args.self.next) both.fits,
    ) both.bound.least

pub scaled_down-requires-clause-most : goal.scaled_down-requires-clause-most
scaled_down-requires-clause-most c =
    let both = summed c.args.section c.args.sample c.product.result c.args.self.next c.requires c.ranges.sample c.product.ensures
    c.args.self.next_bound in
    rw (
      to_z-of_z w64 c.product.result both.first,
      to_z-of_z w64 c.args.self.next both.second,
      to_z-of_z w64
          (c.product.result +ℤ c.args.self.next) both.fits,
    ) both.bound.most

pub returns : goal.returns
returns c =
    let both = summed c.args.section c.args.sample c.product.result c.args.self.next c.requires c.ranges.sample c.product.ensures
    c.args.self.next_bound in
    let fits : FitsSigned w32 c.scaled_down.result = search rules in
    to_z-of_z w32 c.scaled_down.result fits
    ∙ (rw (
      to_z-of_z w64 c.product.result both.first,
      to_z-of_z w64 c.args.self.next both.second,
      to_z-of_z w64
          (c.product.result +ℤ c.args.self.next) both.fits,
    ) at c.scaled_down.ensures)
    ∙ ap (λ z. scaled_down c.args.section.shift (z +ℤ c.args.self.next))
    (product-is c.args.section c.args.sample c.product.result c.requires c.ranges.sample c.product.ensures)

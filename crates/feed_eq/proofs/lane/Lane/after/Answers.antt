-- Both sums fit.
use Rattle.std.proofs.Common.{◌+ℤ◌, w32, w64, ap, arith}
use Rattle.std.proofs.lemmas.Int.{to_z-of_z}
use Rattle.feed_eq.proofs.Weights.{are-both, coef-fits, sum-fits}
use Rattle.feed_eq.proofs.lane.Lane.after.Goals as goal

pub overflow_add-result : goal.overflow_add-result
overflow_add-result c =
    let both = are-both 2 2 c.args.self.later c.added.result (omega arith) c.args.self.later_bound c.added.ensures.bound in
    rw (to_z-of_z w64 c.args.self.later both.first, to_z-of_z w64 c.added.result both.second) both.fits

pub invariant_of-result-clause-next_bound : goal.invariant_of-result-clause-next_bound
invariant_of-result-clause-next_bound c =
    let both = are-both 2 2 c.args.self.later c.added.result (omega arith) c.args.self.later_bound c.added.ensures.bound in
    rw (
      to_z-of_z w64 c.args.self.later both.first,
      to_z-of_z w64 c.added.result both.second,
      to_z-of_z w64
          (c.args.self.later +ℤ c.added.result) both.fits,
    ) both.bound

pub invariant_of-result-clause-later_bound : goal.invariant_of-result-clause-later_bound
invariant_of-result-clause-later_bound c =
    rw (to_z-of_z w64 c.added-2.result (sum-fits 2 c.added-2.result (omega arith) c.added-2.ensures.bound)) c.added-2.ensures.bound

pub returns-clause-next : goal.returns-clause-next
returns-clause-next c =
    let s = c.args.section in
    let both = are-both 2 2 c.args.self.later c.added.result (omega arith) c.args.self.later_bound c.added.ensures.bound in
    rw (
      to_z-of_z w64 c.args.self.later both.first,
      to_z-of_z w64 c.added.result both.second,
      to_z-of_z w64
          (c.args.self.later +ℤ c.added.result) both.fits,
    )
    (ap (λ z. c.args.self.later +ℤ z) (rw (
      to_z-of_z w32 s.b1 (coef-fits s.b1 c.requires.b1),
      to_z-of_z w32 s.a1
          (coef-fits s.a1 c.requires.a1),
      to_z-of_z w32 c.args.input c.ranges.input,
      to_z-of_z w32 c.args.output
          c.ranges.output,
    ) at c.added.ensures.value))

pub returns-clause-later : goal.returns-clause-later
returns-clause-later c =
    let s = c.args.section in
    rw (to_z-of_z w64 c.added-2.result (sum-fits 2 c.added-2.result (omega arith) c.added-2.ensures.bound))
    (rw (
      to_z-of_z w32 s.b2 (coef-fits s.b2 c.requires.b2),
      to_z-of_z w32 s.a2 (coef-fits s.a2 c.requires.a2),
      to_z-of_z w32 c.args.input
          c.ranges.input,
      to_z-of_z w32 c.args.output c.ranges.output,
    ) at c.added-2.ensures.value)

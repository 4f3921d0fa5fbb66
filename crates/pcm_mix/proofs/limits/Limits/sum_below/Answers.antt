use Rattle.std.proofs.Common.{◌+ℤ◌, w32, rules, arith}
use Rattle.std.proofs.lemmas.Int.{to_z-of_z, ints, clamps}
use Rattle.pcm_mix.proofs.Sums.{FitsSigned-sum}
use Rattle.pcm_mix.proofs.limits.Limits.sum_below.Goals as goal

pub overflow_add-a : goal.overflow_add-a
overflow_add-a c =
    let sum = FitsSigned-sum c.args.self.bits c.args.a c.args.b c.requires.few c.requires.held c.requires.added in
    rw (to_z-of_z w32 c.args.a c.ranges.a, to_z-of_z w32 c.args.b c.ranges.b) sum

pub returns : goal.returns
returns c =
    let sum = FitsSigned-sum c.args.self.bits c.args.a c.args.b c.requires.few c.requires.held c.requires.added in
    let a_is = to_z-of_z w32 c.args.a c.ranges.a in
    let b_is = to_z-of_z w32 c.args.b c.ranges.b in
    let sum_is = to_z-of_z w32 (c.args.a +ℤ c.args.b) sum in
    let least_is = to_z-of_z w32 c.args.self.least (search rules) in
    let greatest_is = to_z-of_z w32 c.args.self.greatest (search rules) in
    let lower_is = to_z-of_z w32 c.min.result (search rules) in
    let result_is = to_z-of_z w32 c.max.result (search rules) in
    let low = simp (a_is, b_is, sum_is) at c.min.ensures.value in
    omega (arith, ints, clamps, low, c.max.ensures.value, c.args.self.least_is, c.args.self.greatest_is)

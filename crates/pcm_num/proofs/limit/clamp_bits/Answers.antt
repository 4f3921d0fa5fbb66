use Rattle.std.proofs.Common.{arith, ◌-◌, lit<}
use Rattle.std.proofs.Math.Nat.{pow-le-pow_right}
use Rattle.std.proofs.lemmas.Nat.{one_shl, pow_pos}
use Rattle.std.proofs.lemmas.Int.{ints, clamps}
use Rattle.pcm_num.proofs.Limits.{clamped-nearest}
use Rattle.pcm_num.proofs.limit.clamp_bits.Goals as goal

pub returns-clause-value : goal.returns-clause-value
returns-clause-value c =
    let k = c.args.bits - 1 in
    let shifted = one_shl k 64 (omega arith) in
    let above = pow_pos k in
    let within = pow-le-pow_right {n = 2} (lit< tt) {i = k} {j = 31} (omega arith) in
    omega (arith, ints, clamps, c.clamp.ensures.value)

pub returns-clause-nearest : goal.returns-clause-nearest
returns-clause-nearest c other h = rw (returns-clause-value c) (clamped-nearest c.args.bits c.args.x other h)

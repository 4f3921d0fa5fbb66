use Rattle.std.proofs.Common.{arith, ◌-◌, lit<}
use Rattle.std.proofs.Math.Nat.{pow-le-pow_right}
use Rattle.std.proofs.lemmas.Nat.{one_shl, pow_pos}
use Rattle.std.proofs.lemmas.Int.{ints}
use Rattle.pcm_feeder.proofs.sums.half.Goals as goal

pub returns : goal.returns
returns c =
    let k = c.args.shift - 1 in
    let shifted = one_shl k 64 (omega arith) in
    let above = pow_pos k in
    let within = pow-le-pow_right {n = 2} (lit< tt) {i = k} {j = 31} (omega arith) in
    omega (arith, ints)

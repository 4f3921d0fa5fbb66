-- Numbers of a few digits fit 64 bits.
use Rattle.std.proofs.Common.{ℕ, ◌+◌, ◌*◌, ◌^◌, ◌<◌, ◌≤◌, arith}
use Rattle.std.proofs.Math.Nat.{mul-le-mul_left, pow-le-pow_right}
use Rattle.std.proofs.lemmas.Nat.{pow-add}

-- one more digit makes a number of at most sixteen times the size
pub digit-below : (value base digit count : ℕ) → value < 16 ^ count → base ≤ 16 → digit ≤ 15 → value * base + digit < 16 ^ (count + 1)
digit-below value base digit count small narrow low =
    let more = pow-add 16 count 1 in
    omega (arith, mul-le-mul_left value narrow)

-- ten digits fit
pub digit-fits : (value base digit count : ℕ) → value < 16 ^ count → count < 10 → base ≤ 16 → digit ≤ 15 → value * base + digit < 2 ^ 64
digit-fits value base digit count small few narrow low =
    let ten : 16 ^ (count + 1) ≤ 16 ^ 10 = pow-le-pow_right {n = 16} (omega arith) {i = count + 1} {j = 10} (omega arith) in
    omega (arith, digit-below value base digit count small narrow low)

-- Sums of two samples, as numbers of 32 bits.
use Rattle.std.proofs.Common.{◌≤◌, ◌<◌, ◌-◌, ℕ, ℤ, ◌+ℤ◌, FitsSigned, w32, arith}
use Rattle.std.proofs.Math.Nat.{pow-le-pow_right}
use Rattle.std.proofs.lemmas.Int.{ints}
use Rattle.pcm_num.specs.Limit.{FitsBits}
use Rattle.pcm_num.proofs.Limits.{FitsSigned-from_bits}

-- a sample of fewer bits is one of more
pub FitsBits-wider : (few many : ℕ) (z : ℤ) → few ≤ many → FitsBits few z → FitsBits many z
FitsBits-wider few many z h fits =
    let half = pow-le-pow_right {n = 2} (omega arith) {i = few - 1} {j = many - 1} (omega arith) in
    record { low = omega (arith, ints, fits.low); high = omega (arith, ints, fits.high) }

-- a sample of at most 32 bits is a number of 32
pub FitsSigned-from_fewer : (bits : ℕ) (z : ℤ) → bits ≤ 32 → FitsBits bits z → FitsSigned w32 z
FitsSigned-from_fewer bits z h fits = FitsSigned-from_bits z (FitsBits-wider bits 32 z h fits)

-- two samples of fewer than 32 bits have a sum of 32
pub FitsSigned-sum : (bits : ℕ) (a b : ℤ) → bits < 32 → FitsBits bits a → FitsBits bits b → FitsSigned w32 (a +ℤ b)
FitsSigned-sum bits a b h p q =
    let first = FitsBits-wider bits 31 a (omega arith) p in
    let second = FitsBits-wider bits 31 b (omega arith) q in
    FitsSigned-from_bits (a +ℤ b) (record { low = omega (arith, ints, first.low, second.low); high = omega (arith, ints, first.high, second.high) })

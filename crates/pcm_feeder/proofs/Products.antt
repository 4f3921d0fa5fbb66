-- The bounds of products and of their sums.
use Rattle.std.proofs.Common.{◌≤◌, ◌-◌, ◌*◌, ◌^◌, ℕ, suc, ℤ, pos, negsuc, neg_ℤ, ◌*ℤ◌, ◌≤ℤ◌, w32, w64, FitsSigned, arith}
use Rattle.std.proofs.Math.Nat.{mul-le-mul}
use Rattle.std.proofs.lemmas.Int.{ints}
use Rattle.pcm_num.proofs.Limits.{FitsBits-from_signed}
use Rattle.pcm_feeder.specs.Limits.{IsCoefWithin}

-- a number's bounds
pub record IsWithin (n : ℕ) (z : ℤ) : Type 0 where
  pub least : neg_ℤ (pos n) ≤ℤ z
  pub most : z ≤ℤ pos n

-- a coefficient times a sample
product-within : (k : ℕ) (a b : ℤ) → IsCoefWithin (pos k) a → neg_ℤ (pos (2 ^ 31)) ≤ℤ b → b ≤ℤ pos (2 ^ 31) → IsWithin (k * 2 ^ 31) (a *ℤ b)
product-within k (pos m) (pos n) is least most =
    let all = mul-le-mul {n₁ = m} {m₁ = n} {n₂ = k} {m₂ = 2 ^ 31} (omega (arith, ints, is.high)) (omega (arith, ints, most)) in
    record { least = omega (arith, ints, all); most = omega (arith, ints, all) }
product-within k (pos m) (negsuc n) is least most =
    let all = mul-le-mul {n₁ = m} {m₁ = suc n} {n₂ = k} {m₂ = 2 ^ 31} (omega (arith, ints, is.high)) (omega (arith, ints, least)) in
    record { least = omega (arith, ints, all); most = omega (arith, ints, all) }
product-within k (negsuc m) (pos n) is least most =
    let all = mul-le-mul {n₁ = suc m} {m₁ = n} {n₂ = k} {m₂ = 2 ^ 31} (omega (arith, ints, is.low)) (omega (arith, ints, most)) in
    record { least = omega (arith, ints, all); most = omega (arith, ints, all) }
product-within k (negsuc m) (negsuc n) is least most =
    let all = mul-le-mul {n₁ = suc m} {m₁ = suc n} {n₂ = k} {m₂ = 2 ^ 31} (omega (arith, ints, is.low)) (omega (arith, ints, least)) in
    record { least = omega (arith, ints, all); most = omega (arith, ints, all) }

pub sample-within : (k : ℕ) (a b : ℤ) → IsCoefWithin (pos k) a → FitsSigned w32 b → IsWithin (k * 2 ^ 31) (a *ℤ b)
sample-within k a b is fits =
    let bits = FitsBits-from_signed b fits in
    product-within k a b is (omega (arith, ints, bits.low)) (omega (arith, ints, bits.high))

-- what lies within 64 bits fits them
pub fits-long : (z : ℤ) → IsWithin (2 ^ 63 - 1) z → FitsSigned w64 z
fits-long (pos n) h = record { sfits = omega (arith, ints, h.most) }
fits-long (negsuc n) h = record { sfits = omega (arith, ints, h.least) }

-- a wider bound
pub within-more : (m n : ℕ) (z : ℤ) → m ≤ n → IsWithin m z → IsWithin n z
within-more m n z less h = record { least = omega (arith, ints, h.least); most = omega (arith, ints, h.most) }

-- A product with a reciprocal that is rounded up is the division.
use Rattle.std.proofs.Common.{◌≡◌, ◌≤◌, ◌<◌, ◌+◌, ◌*◌, ◌/◌, ◌^◌, ℕ, arith}
use Rattle.std.proofs.Math.Nat.{mul-le-mul_right, mul-le-mul_left, le_of_mul-le-mul_right, lt_of_mul-lt-mul_right, div-eq_of_lt-le, div-add-mod', mod-lt}
use Rattle.pcm_num.specs.Reciprocal.{reciprocal_of}

-- a factor that is past p parts of a divisor by at most one part of each
product-is : (p d m n : ℕ) → 0 < d → p < m * d → m * d ≤ p + d → n * d < p → n * m / p ≡ n / d
product-is p d m n above past near small =
    let q = n / d in
    let split = div-add-mod' n d in
    let rest = mod-lt n above in
    let low : (q * p) * d ≤ (n * m) * d = omega (arith, mul-le-mul_right {m = q * d} {n = n} p (omega arith), mul-le-mul_left {m = p} {n = m * d} n (omega arith)) in
    let high : (n * m) * d < ((q + 1) * p) * d = omega (arith, mul-le-mul_left {m = m * d} {n = p + d} n near, mul-le-mul_right {m = n + 1} {n = q * d + d} p (omega arith)) in
    div-eq_of_lt-le {k = q} p {m = n * m} (le_of_mul-le-mul_right low above) (lt_of_mul-lt-mul_right d high)

-- the quotient of numbers whose quotient is below 2 ^ 33
pub quotient-is : (d n : ℕ) → 32 < d → d < 2 ^ 18 → n < 2 ^ 33 * d → n * reciprocal_of d / 2 ^ 69 ≡ n / d
quotient-is d n least most within =
    let p = 2 ^ 69 in
    let split = div-add-mod' p d in
    let rest = mod-lt p {m = d} (omega arith) in
    let square = mul-le-mul_right {m = d} {n = 2 ^ 18} d (omega arith) in
    let wide = mul-le-mul_right {m = n} {n = 2 ^ 33 * d} d (omega arith) in
    product-is p d (reciprocal_of d) n (omega arith) (omega arith) (omega arith) (omega arith)

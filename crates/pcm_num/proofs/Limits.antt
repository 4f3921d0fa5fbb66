-- What the limit of a sample keeps.
use Rattle.std.proofs.Common.{◌≡◌, ◌≤◌, ◌<◌, ◌-◌, ◌+◌, ◌*◌, ◌/◌, ◌^◌, ℕ, suc, ℤ, pos, negsuc, ◌*ℤ◌, FitsSigned, w32, sym, ap, ◌∙◌, pow-add, arith}
use Rattle.std.proofs.Math.Nat.{mul-le-mul_right, div-lt_iff_lt-mul}
use Rattle.std.proofs.lemmas.Nat.{pow_pos}
use Rattle.std.proofs.lemmas.Int.{ints, clamps}
use Rattle.pcm_num.specs.Floor.{floor_div}
use Rattle.pcm_num.specs.Limit.{clamped, FitsBits, distance}

-- half of the range of 32 bits is half of the range of `bits`, widened
half_of : (bits : ℕ) → 1 ≤ bits → bits ≤ 32 → 2 ^ (bits - 1) * 2 ^ (32 - bits) ≡ 2 ^ 31
half_of bits least most =
    let exponent : (bits - 1) + (32 - bits) ≡ 31 = omega arith in
    sym (pow-add 2 (bits - 1) (32 - bits)) ∙ ap (λ k. 2 ^ k) exponent

-- the upper bits of a number below half of the range
div-below : (bits n : ℕ) → 1 ≤ bits → bits ≤ 32 → n < 2 ^ 31 → n / 2 ^ (32 - bits) < 2 ^ (bits - 1)
div-below bits n least most h =
    let half = half_of bits least most in
    (div-lt_iff_lt-mul {k = 2 ^ (32 - bits)} {x = n} {y = 2 ^ (bits - 1)} (pow_pos (32 - bits))).1 (omega arith)

-- what is limited is in the range
pub clamped-fits : (bits : ℕ) (z : ℤ) → FitsBits bits (clamped bits z)
clamped-fits bits z = record { low = omega (arith, ints, clamps); high = omega (arith, ints, clamps) }

-- no number of the range is nearer
pub clamped-nearest : (bits : ℕ) (z other : ℤ) → FitsBits bits other → distance z (clamped bits z) ≤ distance z other
clamped-nearest bits z other h = grind (arith, ints, clamps)

-- the numbers of an i32 are the samples of 32 bits
pub FitsBits-from_signed : (z : ℤ) → FitsSigned w32 z → FitsBits 32 z
FitsBits-from_signed z fits = record { low = omega (arith, ints); high = omega (arith, ints) }

-- and the other way round
pub FitsSigned-from_bits : (z : ℤ) → FitsBits 32 z → FitsSigned w32 z
FitsSigned-from_bits (pos n) fits = record { sfits = omega (arith, ints) }
FitsSigned-from_bits (negsuc n) fits = record { sfits = omega (arith, ints) }

-- the upper bits of a sample of 32 bits
pub FitsBits-floor_div : (bits : ℕ) (z : ℤ) → 1 ≤ bits → bits ≤ 32 → FitsBits 32 z → FitsBits bits (floor_div z (2 ^ (32 - bits)))
FitsBits-floor_div bits (pos n) least most fits =
    let below = div-below bits n least most (omega (arith, ints)) in
    record { low = omega (arith, ints); high = omega (arith, ints) }
FitsBits-floor_div bits (negsuc n) least most fits =
    let below = div-below bits n least most (omega (arith, ints)) in
    record { low = omega (arith, ints); high = omega (arith, ints) }

-- a sample of fewer bits, widened to 32
pub FitsBits-mul_pow : (bits : ℕ) (z : ℤ) → 1 ≤ bits → bits ≤ 32 → FitsBits bits z → FitsBits 32 (z *ℤ pos (2 ^ (32 - bits)))
FitsBits-mul_pow bits (pos n) least most fits =
    let half = half_of bits least most in
    let above = pow_pos (bits - 1) in
    let unit = pow_pos (32 - bits) in
    let wide = mul-le-mul_right {m = suc n} {n = 2 ^ (bits - 1)} (2 ^ (32 - bits)) (omega (arith, ints)) in
    record { low = omega (arith, ints); high = omega (arith, ints) }
FitsBits-mul_pow bits (negsuc n) least most fits =
    let half = half_of bits least most in
    let above = pow_pos (bits - 1) in
    let unit = pow_pos (32 - bits) in
    let wide = mul-le-mul_right {m = suc n} {n = 2 ^ (bits - 1)} (2 ^ (32 - bits)) (omega (arith, ints)) in
    record { low = omega (arith, ints); high = omega (arith, ints) }

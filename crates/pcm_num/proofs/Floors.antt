-- What rounding down keeps.
use Rattle.std.proofs.Common.{◌≡◌, ◌<◌, ◌*◌, ◌/◌, ◌-◌, ◌^◌, ℕ, zero, suc, ℤ, pos, negsuc, neg_ℤ, ◌*ℤ◌, ap, ◌∙◌, arith}
use Rattle.std.proofs.Math.Nat.{mul-div_cancel, div-eq_of_lt-le}
use Rattle.std.proofs.lemmas.Nat.{pow_pos}
use Rattle.pcm_num.specs.Floor.{floor_div}

-- the quotient of a number below zero
floor_div-neg : (m d : ℕ) → 0 < m → floor_div (neg_ℤ (pos m)) d ≡ negsuc ((m - 1) / d)
floor_div-neg zero d above = absurd (omega arith)
floor_div-neg (suc k) d above = ap (λ z. negsuc (z / d)) (omega arith)

-- division undoes multiplication
pub floor_div-mul : (v : ℤ) (d : ℕ) → 0 < d → floor_div (v *ℤ pos d) d ≡ v
floor_div-mul (pos n) d above = ap pos (mul-div_cancel n above)
floor_div-mul (negsuc n) d above = floor_div-neg (suc n * d) d (omega arith) ∙ ap negsuc (div-eq_of_lt-le {k = n} d {m = suc n * d - 1} (omega arith) (omega arith))

-- at a power of two
pub floor_div-mul_pow : (v : ℤ) (k : ℕ) → floor_div (v *ℤ pos (2 ^ k)) (2 ^ k) ≡ v
floor_div-mul_pow v k = floor_div-mul v (2 ^ k) (pow_pos k)

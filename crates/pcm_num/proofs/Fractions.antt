-- A fraction divided by the greatest common divisor of its parts is in lowest terms.
use Rattle.std.proofs.Common.{◌≡◌, ◌<◌, ◌*◌, ◌/◌, ℕ, zero, suc, subst, sym, arith}
use Rattle.std.proofs.Math.Nat.{div-mul_cancel, dvd_of_mul-dvd-mul_right, mul-dvd-mul_right, one-dvd, one-mul}
use Rattle.std.specs.Int.{IsGcd, ◌∣◌}
use Rattle.pcm_num.specs.Fraction.{HasCommonFactor}

-- to divide both parts by their divisor leaves the same fraction
pub HasCommonFactor-div : (src dst g : ℕ) → IsGcd src dst g → HasCommonFactor src dst (src / g) (dst / g)
HasCommonFactor-div src dst g h = record {
  factor = g;
  src_is = sym (div-mul_cancel g h.0);
  dst_is = sym (div-mul_cancel g h.1);
}

-- d times g divides what g divides, if d divides the quotient
dvd_times : (n g d : ℕ) → g ∣ n → d ∣ (n / g) → (d * g) ∣ n
dvd_times n g d p q =
    let P : ℕ → Type 0 = λ z. (d * g) ∣ z in
    subst P (div-mul_cancel g p) (mul-dvd-mul_right d q g)

-- and no divisor but 1
pub IsGcd-div : (src dst g : ℕ) → 0 < g → IsGcd src dst g → IsGcd (src / g) (dst / g) 1
IsGcd-div src dst g above h = (
  one-dvd (src / g),
  one-dvd (dst / g),
  λ d p q.
      let P : ℕ → Type 0 = λ z. (d * g) ∣ z in
      dvd_of_mul-dvd-mul_right d above (subst P (sym (one-mul g)) (h.2 (d * g) (dvd_times src g d h.0 p) (dvd_times dst g d h.1 q))),
)

-- a product above 0 has a factor above 0
above-product : (q g n : ℕ) → 0 < n → q * g ≡ n → 0 < q
above-product zero g n above e = absurd (omega arith)
above-product (suc q) g n above e = omega arith

-- and no part that is 0
pub above_zero-div : (n g : ℕ) → 0 < n → g ∣ n → 0 < n / g
above_zero-div n g above h = above-product (n / g) g n above (div-mul_cancel g h)

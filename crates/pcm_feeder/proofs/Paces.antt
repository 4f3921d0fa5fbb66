-- A pace in lowest terms: its fraction, and one output after another.
use Rattle.std.proofs.Common.{◌≡◌, ◌<◌, ◌≤◌, ◌+◌, ◌-◌, ◌*◌, ◌/◌, ◌%◌, ℕ, zero, suc, sym, ap, ◌∙◌, arith}
use Rattle.std.specs.Int.{IsGcd}
use Rattle.std.proofs.lemmas.Nat.{div-add-mod'}
use Rattle.std.proofs.Math.Nat.{mod-lt, div-eq_of_lt, div-eq_of_eq-mul_right, div-le_self, mul-le-mul_right, mul-le-mul_left}
use Rattle.pcm_num.specs.Fraction.{HasCommonFactor}
use Rattle.pcm_rate.specs.declared.rate.Rate.{Rate}
use Rattle.pcm_rate.proofs.Counts.{div_more}
use Rattle.pcm_feeder.specs.Fractions.{IsPaced, IsFraction}
use Rattle.pcm_feeder.specs.Turns.{step_of, phase_of}

-- ---- the fraction

above-factor : (d f : ℕ) → 0 < d * f → 0 < f
above-factor d zero above = absurd (omega arith)
above-factor d (suc f) above = omega arith

-- a rate divided by its greatest factor
pub fraction-is : (rate : Rate) (s d : ℕ) → IsPaced rate → HasCommonFactor rate.src rate.dst s d → IsGcd s d 1 → 0 < d
    → IsFraction rate (rate.dst / d) d (s / d) (s % d)
fraction-is rate s d paced common lowest above =
    let f = common.factor in
    let factor : rate.dst / d ≡ f = div-eq_of_eq-mul_right above common.dst_is in
    let parts : s / d * d + s % d ≡ s = div-add-mod' s d in
    let some : 0 < f = above-factor d f (omega (arith, common.dst_is, paced.target.least)) in
    record {
      src = rw (factor, parts) common.src_is;
      dst = rw factor common.dst_is;
      lowest = rw parts lowest;
      below = mod-lt s above;
      above = rw factor some;
      low_most = omega (arith, common.dst_is, paced.target.most, mul-le-mul_left {m = 1} {n = f} d some);
      whole_most = omega (arith, common.src_is, paced.source.most, mul-le-mul_left {m = 1} {n = f} s some, div-le_self s d);
    }

-- ---- one output after another

-- a quotient and a remainder, by what they add up to
divided : (n d q r : ℕ) → r < d → n ≡ q * d + r → (n / d ≡ q) × (n % d ≡ r)
divided n d q r below is =
    let quotient : n / d ≡ q = div_more r n d q (omega arith) (omega arith) ∙ omega (arith, div-eq_of_lt below) in
    (quotient, omega (arith, is, div-add-mod' n d, ap (λ z. z * d) quotient))

-- where an output lies
pub record IsPlaced (rate : Rate) (phase factor low frames parts j : ℕ) : Type 0 where
  pub frames_is : frames ≡ step_of rate phase j
  pub parts_is : parts * factor ≡ phase_of rate phase j
  pub below : parts < low

-- the next one, by the parts that it is further
placed-next : (rate : Rate) (phase factor low whole part frames parts j q r : ℕ) → IsFraction rate factor low whole part
    → IsPlaced rate phase factor low frames parts j → r < low → parts + part + whole * low + frames * low ≡ r + q * low
    → IsPlaced rate phase factor low q r (j + 1)
placed-next rate phase factor low whole part frames parts j q r frac at below is =
    let n = phase + j * rate.src in
    let here : frames * rate.dst + parts * factor ≡ n = omega (arith, div-add-mod' n rate.dst, ap (λ z. z * rate.dst) at.frames_is, at.parts_is) in
    let next : suc r ≤ low = omega arith in
    let fits : r * factor < rate.dst = omega (arith, frac.dst, frac.above, mul-le-mul_right factor next) in
    let sum : phase + (j + 1) * rate.src ≡ q * rate.dst + r * factor =
    omega (arith, here, frac.src, ap (λ z. z * factor) is, ap (λ z. frames * z) frac.dst, ap (λ z. q * z) frac.dst) in
    let both = divided (phase + (j + 1) * rate.src) rate.dst q (r * factor) fits sum in
    record { frames_is = sym both.0; parts_is = sym both.1; below = below }

-- an output whose phase doesn't pass a frame, and one whose phase does
pub placed-within : (rate : Rate) (phase factor low whole part frames parts j : ℕ) → IsFraction rate factor low whole part
    → IsPlaced rate phase factor low frames parts j → parts + part < low → IsPlaced rate phase factor low (frames + whole) (parts + part) (j + 1)
placed-within rate phase factor low whole part frames parts j frac at below =
    placed-next rate phase factor low whole part frames parts j (frames + whole) (parts + part) frac at below (omega arith)

pub placed-past : (rate : Rate) (phase factor low whole part frames parts j : ℕ) → IsFraction rate factor low whole part
    → IsPlaced rate phase factor low frames parts j → low ≤ parts + part → IsPlaced rate phase factor low (frames + whole + 1) (parts + part - low) (j + 1)
placed-past rate phase factor low whole part frames parts j frac at past =
    let below : parts + part - low < low = omega (arith, at.below, frac.below) in
    placed-next rate phase factor low whole part frames parts j (frames + whole + 1) (parts + part - low) frac at below (omega arith)

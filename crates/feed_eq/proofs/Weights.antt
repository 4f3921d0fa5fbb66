-- Products of a section, and their sums, fit 64 bits.
use Rattle.std.proofs.Common.{◌≡◌, ◌≤◌, ◌+◌, ◌^◌, ℕ, ℤ, pos, negsuc, ◌+ℤ◌, ◌-ℤ◌, ◌*ℤ◌, w32, w64, FitsSigned, ap, ◌∙◌, sym, subst, arith}
use Rattle.std.proofs.lemmas.Int.{ints}
use Rattle.pcm_feeder.specs.declared.section.Section.{Section}
use Rattle.pcm_feeder.specs.Limits.{IsSectionCoef}
use Rattle.pcm_feeder.specs.Sections.{weighed}
use Rattle.pcm_feeder.specs.Sums.{scaled_down}
use Rattle.pcm_feeder.proofs.Products.{sample-within, fits-long}
use Rattle.feed_eq.specs.Added.{added, IsSumOf}

-- a coefficient has 32 bits
pub coef-fits : (a : ℤ) → IsSectionCoef a → FitsSigned w32 a
coef-fits (pos n) h = record { sfits = omega (arith, ints, h.high) }
coef-fits (negsuc n) h = record { sfits = omega (arith, ints, h.low) }

-- a product
pub sum-of-product : (a b : ℤ) → IsSectionCoef a → FitsSigned w32 b → IsSumOf 1 (a *ℤ b)
sum-of-product a b is fits =
    let within = sample-within (2 ^ 29) a b is fits in
    record { least = omega (arith, ints, within.least); most = omega (arith, ints, within.most) }

-- a sum of at most seven products fits
pub sum-fits : (n : ℕ) (z : ℤ) → n ≤ 7 → IsSumOf n z → FitsSigned w64 z
sum-fits n z few is = fits-long z (record { least = omega (arith, ints, few, is.least); most = omega (arith, ints, few, is.most) })

-- two sums and their sum, each of which fits 64 bits
pub record AreBoth (m n : ℕ) (a b : ℤ) : Type 0 where
  pub first : FitsSigned w64 a
  pub second : FitsSigned w64 b
  pub fits : FitsSigned w64 (a +ℤ b)
  pub bound : IsSumOf (m + n) (a +ℤ b)

pub are-both : (m n : ℕ) (a b : ℤ) → m + n ≤ 7 → IsSumOf m a → IsSumOf n b → AreBoth m n a b
are-both m n a b few first second =
    let bound : IsSumOf (m + n) (a +ℤ b) = record { least = omega (arith, ints, first.least, second.least); most = omega (arith, ints, first.most, second.most) } in
    record {
      first = sum-fits m a (omega (arith, few)) first;
      second = sum-fits n b (omega (arith, few)) second;
      fits = sum-fits (m + n) (a +ℤ b) few bound;
      bound = bound;
    }

-- the two products of a frame, and their difference
pub record AreAdded (b a x y p q : ℤ) : Type 0 where
  pub first : FitsSigned w64 p
  pub second : FitsSigned w64 q
  pub fits : FitsSigned w64 (p -ℤ q)
  pub value : (p -ℤ q) ≡ added b a x y
  pub bound : IsSumOf 2 (p -ℤ q)

pub are-added : (b a x y p q : ℤ) → IsSectionCoef b → IsSectionCoef a → FitsSigned w32 x → FitsSigned w32 y → p ≡ (b *ℤ x) → q ≡ (a *ℤ y) → AreAdded b a x y p q
are-added b a x y p q b_is a_is x_fits y_fits first second =
    let one : IsSumOf 1 p = subst (IsSumOf 1) (sym first) (sum-of-product b x b_is x_fits) in
    let two : IsSumOf 1 q = subst (IsSumOf 1) (sym second) (sum-of-product a y a_is y_fits) in
    let both : IsSumOf 2 (p -ℤ q) = record { least = omega (arith, ints, one.least, two.most); most = omega (arith, ints, one.most, two.least) } in
    record {
      first = sum-fits 1 p (omega arith) one;
      second = sum-fits 1 q (omega arith) two;
      fits = sum-fits 2 (p -ℤ q) (omega arith) both;
      value = ap (λ z. z -ℤ q) first ∙ ap (λ z. b *ℤ x -ℤ z) second;
      bound = both;
    }

-- the sum of a sample, of the frame before it and of the one before that
regrouped : (p p1 p2 q1 q2 : ℤ) → (p +ℤ ((p2 -ℤ q2) +ℤ (p1 -ℤ q1))) ≡ (p +ℤ p1 +ℤ p2 -ℤ q1 -ℤ q2)
regrouped p p1 p2 q1 q2 = omega (arith, ints)

pub weighed-is : (s : Section) (x x1 x2 y1 y2 : ℤ) → scaled_down s.shift (s.b0 *ℤ x +ℤ (added s.b2 s.a2 x2 y2 +ℤ added s.b1 s.a1 x1 y1)) ≡ weighed s x x1 x2 y1 y2
weighed-is s x x1 x2 y1 y2 = ap (scaled_down s.shift) (regrouped (s.b0 *ℤ x) (s.b1 *ℤ x1) (s.b2 *ℤ x2) (s.a1 *ℤ y1) (s.a2 *ℤ y2))

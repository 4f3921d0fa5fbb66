-- Points on a line, sample by sample.
use Rattle.std.proofs.Common.{◌≡◌, ◌<◌, ◌≤◌, ◌+◌, ◌-◌, ◌*◌, ◌/◌, ◌^◌, ℕ, zero, suc, ℤ, pos, negsuc, ◌+ℤ◌, ◌-ℤ◌, ◌*ℤ◌, ◌≤ℤ◌, ◌<ℤ◌, neg_ℤ, w32, FitsSigned, [], ◌∷◌, ◌++◌, length, take, get_or, set, refl, sym, ap, ◌∙◌, arith}
use Rattle.std.specs.Simd.Lanes.{zip2}
use Rattle.std.proofs.lemmas.Int.{ints}
use Rattle.std.proofs.lemmas.List.{take_more_set}
use Rattle.std.proofs.Math.Nat.{add-mul-div_right, div-eq_of_lt-le, div-add-mod', mod-lt, div-lt_iff_lt-mul, mul-le-mul_right}
use Rattle.pcm_num.specs.Floor.{floor_div}
use Rattle.pcm_format.specs.Frames.{Frame}
use Rattle.feed_linear.specs.Points.{IsPoint}

-- ---- a sample

-- a product with a raised sample
raised-product : (raised weight : ℕ) (sample : ℤ) → pos raised ≡ (sample +ℤ pos (2 ^ 31)) → pos (raised * weight) ≡ (sample *ℤ pos weight +ℤ pos (2 ^ 31 * weight))
raised-product raised weight (pos n) is =
    let same : raised ≡ n + 2 ^ 31 = omega (arith, ints) in
    let product = ap (λ z. z * weight) same in
    omega (arith, ints)
raised-product raised weight (negsuc n) is =
    let same : raised + suc n ≡ 2 ^ 31 = omega (arith, ints) in
    let product = ap (λ z. z * weight) same in
    omega (arith, ints)

-- a quotient that is lower by k, of a number that is lower by k times the divisor
floor_div-lower : (z : ℤ) (k d n : ℕ) → 0 < d → pos n ≡ (z +ℤ pos (k * d)) → (pos (n / d) -ℤ pos k) ≡ floor_div z d
floor_div-lower (pos m) k d n above is =
    let same : n ≡ m + k * d = omega (arith, ints) in
    let quotient : n / d ≡ m / d + k = ap (λ x. x / d) same ∙ add-mul-div_right m k above in
    omega (arith, ints)
floor_div-lower (negsuc m) k d n above is =
    let same : n + suc m ≡ k * d = omega (arith, ints) in
    let q = m / d in
    let split = div-add-mod' m d in
    let rest = mod-lt m above in
    let below : q < k = (div-lt_iff_lt-mul {k = d} {x = m} {y = k} above).1 (omega arith) in
    let j = k - suc q in
    let whole : k ≡ j + suc q = omega arith in
    let parts = ap (λ x. x * d) whole in
    let quotient : n / d ≡ j = div-eq_of_lt-le {k = j} d {m = n} (omega arith) (omega arith) in
    omega (arith, ints)

-- a point on the line from one sample to the next
point-is : (a b : ℤ) (x y here next d : ℕ) → 0 < d → here + next ≡ d → pos x ≡ (a +ℤ pos (2 ^ 31)) → pos y ≡ (b +ℤ pos (2 ^ 31))
    → (pos ((x * here + y * next) / d) -ℤ pos (2 ^ 31)) ≡ floor_div (a *ℤ pos here +ℤ b *ℤ pos next) d
point-is a b x y here next d above all first second =
    let lines = raised-product x here a first in
    let rises = raised-product y next b second in
    floor_div-lower (a *ℤ pos here +ℤ b *ℤ pos next) (2 ^ 31) d (x * here + y * next) above (omega (arith, ints))

-- a way between two raised samples, so many times
way-is : (way : ℤ) (x y parts : ℕ) → (pos x +ℤ way) ≡ pos y → (way *ℤ pos parts +ℤ pos (x * parts)) ≡ pos (y * parts)
way-is (pos n) x y parts is =
    let same : y ≡ x + n = omega (arith, ints) in
    let product = ap (λ z. z * parts) same in
    omega (arith, ints)
way-is (negsuc n) x y parts is =
    let same : x ≡ y + suc n = omega (arith, ints) in
    let product = ap (λ z. z * parts) same in
    omega (arith, ints)

-- the steps to a point, where the way was raised by 2 ^ 32 wholes
raised-is : (a b : ℤ) (x y parts d number : ℕ) → 0 < d → parts ≤ d → pos x ≡ (a +ℤ pos (2 ^ 31)) → pos y ≡ (b +ℤ pos (2 ^ 31)) → x < 2 ^ 32 → y < 2 ^ 32
    → pos number ≡ ((b -ℤ a) *ℤ pos parts +ℤ pos (2 ^ 32 * d)) → IsPoint a b parts d (number / d)
raised-is a b x y parts d number above within first second low high is =
    let here = d - parts in
    let k = 2 ^ 32 - x in
    let all : here + parts ≡ d = omega arith in
    let way = way-is (b -ℤ a) x y parts (omega (arith, ints, first, second)) in
    let same : number + x * parts ≡ y * parts + 2 ^ 32 * d = omega (arith, ints, is, way) in
    let split = ap (λ z. x * z) all in
    let wholes : (k + x) * d ≡ 2 ^ 32 * d = ap (λ z. z * d) (omega arith) in
    let sum : number ≡ (x * here + y * parts) + k * d = omega (arith, same, split, wholes) in
    let quotient : number / d ≡ (x * here + y * parts) / d + k = ap (λ z. z / d) sum ∙ add-mul-div_right (x * here + y * parts) k above in
    let first_most = mul-le-mul_right {m = x} {n = 2 ^ 32 - 1} here (omega arith) in
    let second_most = mul-le-mul_right {m = y} {n = 2 ^ 32 - 1} parts (omega arith) in
    let below : (x * here + y * parts) / d < 2 ^ 32 = (div-lt_iff_lt-mul {k = d} {x = x * here + y * parts} {y = 2 ^ 32} above).1 (omega (arith, all)) in
    let point = point-is a b x y here parts d above all first second in
    record {
      few = omega (arith, quotient, below);
      least = omega (arith, ints, quotient, first);
      most = omega (arith, ints, quotient, first, below);
      value = omega (arith, ints, quotient, first, point);
    }

-- a sample, raised to a number from 0 on
abbrev raised_of : ℤ → ℕ
raised_of (pos n) = n + 2 ^ 31
raised_of (negsuc n) = 2 ^ 31 - suc n

raised_of-is : (a : ℤ) → FitsSigned w32 a → pos (raised_of a) ≡ (a +ℤ pos (2 ^ 31))
raised_of-is (pos n) fits = omega (arith, ints)
raised_of-is (negsuc n) fits = omega (arith, ints, fits.sfits)

raised_of-below : (a : ℤ) → FitsSigned w32 a → raised_of a < 2 ^ 32
raised_of-below (pos n) fits = omega (arith, ints, fits.sfits)
raised_of-below (negsuc n) fits = omega arith

pub blend-is : (a b : ℤ) (parts d number : ℕ) → 0 < d → parts ≤ d → FitsSigned w32 a → FitsSigned w32 b
    → pos number ≡ ((b -ℤ a) *ℤ pos parts +ℤ pos (2 ^ 32 * d)) → IsPoint a b parts d (number / d)
blend-is a b parts d number above within first second is =
    raised-is a b (raised_of a) (raised_of b) parts d number above within (raised_of-is a first) (raised_of-is b second)
    (raised_of-below a first) (raised_of-below b second) is

-- a part of a way is shorter than as many wholes as samples have values
pub way-within : (way : ℤ) (parts d : ℕ) → 0 < d → parts ≤ d → neg_ℤ (pos (2 ^ 32 - 1)) ≤ℤ way → way ≤ℤ pos (2 ^ 32 - 1)
    → (pos 0 ≤ℤ (way *ℤ pos parts +ℤ pos (2 ^ 32 * d))) × ((way *ℤ pos parts) <ℤ pos (2 ^ 32 * d))
way-within (pos n) parts d above few least most =
    let long = mul-le-mul_right {m = n} {n = 2 ^ 32 - 1} parts (omega (arith, ints)) in
    (omega (arith, ints), omega (arith, ints, long))
way-within (negsuc n) parts d above few least most =
    let long = mul-le-mul_right {m = suc n} {n = 2 ^ 32 - 1} parts (omega (arith, ints)) in
    (omega (arith, ints, long), omega (arith, ints))

-- ---- a frame

-- one sample more of two frames that go through a function together
zip-suc : (f : ℤ → ℤ → ℤ) (frame next : Frame) (i : ℕ) → i < length frame → i < length next
    → zip2 f (take (suc i) frame) (take (suc i) next) ≡ zip2 f (take i frame) (take i next) ++ f (get_or frame i (pos 0)) (get_or next i (pos 0)) ∷ []
zip-suc f [] next i h k = absurd (omega arith)
zip-suc f (x ∷ frame) [] i h k = absurd (omega arith)
zip-suc f (x ∷ frame) (y ∷ next) zero h k = refl
zip-suc f (x ∷ frame) (y ∷ next) (suc i) h k = ap (λ rest. f x y ∷ rest) (zip-suc f frame next i (omega arith) (omega arith))

-- and it is written
pub put-sample : (f : ℤ → ℤ → ℤ) (frame next output : Frame) (i : ℕ) (v : ℤ) → i < length frame → i < length next → i < length output
    → v ≡ f (get_or frame i (pos 0)) (get_or next i (pos 0)) → take i output ≡ zip2 f (take i frame) (take i next)
    → take (i + 1) (set output i v) ≡ zip2 f (take (i + 1) frame) (take (i + 1) next)
put-sample f frame next output i v h k room is before =
    let on : suc i ≡ i + 1 = omega arith in
    take_more_set output i v room ∙ ap (λ front. front ++ v ∷ []) before ∙ ap (λ x. zip2 f (take i frame) (take i next) ++ x ∷ []) is
    ∙ sym (zip-suc f frame next i h k) ∙ ap (λ n. zip2 f (take n frame) (take n next)) on

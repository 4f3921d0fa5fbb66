-- What vectors of 32-bit lanes hold when one block is added to another.
use Rattle.std.proofs.Common.{◌≡◌, ◌≤◌, ◌<◌, ◌+◌, ◌%◌, ◌/◌, ◌^◌, ◌-◌, ℕ, zero, suc, ℤ, pos, negsuc, ◌+ℤ◌, List, [], ◌∷◌, ◌++◌, Bool, true, false, length, take, drop, map, cond, to_z, of_z, w32, FitsSigned, ◌∙◌, refl, bit_xor, replicate, arith}
use Rattle.std.proofs.lemmas.Int.{to_z-of_z, wrapping_add_is, int_wrap_fits, ints, clamps}
use Rattle.std.proofs.lemmas.List.Elements.{All-head, All-tail}
use Rattle.std.specs.Int.{int_max, int_min}
use Rattle.std.specs.Prelude.{All, int_lt}
use Rattle.std.specs.Simd.Lanes.{zip2, top, sel_l, put_chunk}
use Rattle.std.proofs.Math.Nat.{div-eq_of_lt}
use lib.Signed.{shr_z}
use Rattle.pcm_num.specs.Limit.{FitsBits, clamped, least_of, greatest_of}
use Rattle.pcm_num.proofs.Limits.{FitsSigned-from_bits}
use Rattle.pcm_mix.specs.Mix.{limited_sum, mixed}
use Rattle.pcm_mix.proofs.Sums.{FitsSigned-from_fewer, FitsSigned-sum}

-- the bits of the sum of two lanes, which wraps
abbrev wrapped : ℕ → ℕ → ℕ
wrapped a b = (a + b) % 2 ^ 32

-- all bits where a lane is below another, and else none
abbrev below : ℕ → ℕ → ℕ
below a b = cond (int_lt (to_z w32 a) (to_z w32 b)) (2 ^ 32 - 1) 0

-- a lane moved down by so many places, with its sign above
abbrev signs : ℕ → ℕ → ℕ
signs a places = of_z w32 (shr_z (to_z w32 a) (2 ^ places))

-- the lanes of two vectors where a mask is set, and where not
abbrev chosen : List ℕ → List ℕ → List ℕ → List ℕ
chosen masks xs ys = sel_l (map (top 31) masks) xs ys

-- the sums of lanes, limited to the range from `least` to `greatest`
abbrev limited_lanes : ℕ → ℤ → ℤ → List ℤ → List ℤ → List ℕ
limited_lanes n least greatest xs ys =
    let sums = zip2 wrapped (map (of_z w32) xs) (map (of_z w32) ys) in
    let high = replicate n (of_z w32 greatest) in
    let low = replicate n (of_z w32 least) in
    let lowered = chosen (zip2 below sums high) sums high in
    chosen (zip2 below lowered low) low lowered

-- the sums of lanes, limited to 32 bits
abbrev saturated_lanes : ℕ → List ℤ → List ℤ → List ℕ
saturated_lanes n xs ys =
    let sums = zip2 wrapped (map (of_z w32) xs) (map (of_z w32) ys) in
    let second = zip2 below (map (of_z w32) ys) (replicate n 0) in
    let ends = zip2 bit_xor (zip2 signs (map (of_z w32) ys) (replicate n 31)) (replicate n (2 ^ 31 - 1)) in
    chosen (zip2 bit_xor (zip2 below sums (map (of_z w32) xs)) second) ends sums

-- ---- a lane

-- what is chosen by a mask goes by its first bit
top-mask : (is_set : Bool) → top 31 (cond is_set (2 ^ 32 - 1) 0) ≡ is_set
top-mask true = refl
top-mask false = refl

-- the lesser and the greater of two lanes
lesser-lane : (a b : ℕ) → to_z w32 (cond (top 31 (below a b)) a b) ≡ int_min (to_z w32 a) (to_z w32 b)
lesser-lane a b = rw top-mask (grind (arith, ints, clamps))

greater-lane : (a b : ℕ) → to_z w32 (cond (top 31 (below a b)) b a) ≡ int_max (to_z w32 a) (to_z w32 b)
greater-lane a b = rw top-mask (grind (arith, ints, clamps))

-- a lane limited at one end
abbrev lowered_lane : ℤ → ℕ → ℕ
lowered_lane greatest a = cond (top 31 (below a (of_z w32 greatest))) a (of_z w32 greatest)

abbrev raised_lane : ℤ → ℕ → ℕ
raised_lane least a = cond (top 31 (below a (of_z w32 least))) (of_z w32 least) a

-- a sum of 32 bits, limited at both ends
limited-lane : (least greatest a b : ℤ) → FitsSigned w32 least → FitsSigned w32 greatest → FitsSigned w32 a → FitsSigned w32 b → FitsSigned w32 (a +ℤ b)
    → to_z w32 (raised_lane least (lowered_lane greatest (wrapped (of_z w32 a) (of_z w32 b)))) ≡ int_max least (int_min (a +ℤ b) greatest)
limited-lane least greatest a b low high fa fb fs =
    let sum = wrapping_add_is w32 a b fa fb ∙ int_wrap_fits w32 (a +ℤ b) fs in
    let lowered = lesser-lane (wrapped (of_z w32 a) (of_z w32 b)) (of_z w32 greatest) in
    let raised = greater-lane (lowered_lane greatest (wrapped (of_z w32 a) (of_z w32 b))) (of_z w32 least) in
    let is_low = to_z-of_z w32 least low in
    let is_high = to_z-of_z w32 greatest high in
    omega (arith, ints, clamps, raised, lowered, sum)

-- moved down by 31 places a lane is all sign, and so tells which end its sum can pass
sign-lane : (b : ℤ) → FitsSigned w32 b → signs (of_z w32 b) 31 ≡ below (of_z w32 b) 0
sign-lane (pos n) fits =
    let none : n / 2 ^ 31 ≡ 0 = div-eq_of_lt (omega (arith, ints, fits.sfits)) in
    rw (to_z-of_z w32 (pos n) fits, none) (grind (arith, ints))
sign-lane (negsuc n) fits =
    let none : n / 2 ^ 31 ≡ 0 = div-eq_of_lt (omega (arith, ints, fits.sfits)) in
    rw (to_z-of_z w32 (negsuc n) fits, none) refl

end-lane : (is_set : Bool) → bit_xor (cond is_set (2 ^ 32 - 1) 0) (2 ^ 31 - 1) ≡ cond is_set (2 ^ 31) (2 ^ 31 - 1)
end-lane true = refl
end-lane false = refl

-- a sum that wraps, or the end of 32 bits that it passed
saturated-lane : (a b : ℤ) → FitsSigned w32 a → FitsSigned w32 b
    → to_z w32 (cond (top 31 (bit_xor (below (wrapped (of_z w32 a) (of_z w32 b)) (of_z w32 a)) (below (of_z w32 b) 0))) (bit_xor (signs (of_z w32 b) 31) (2 ^ 31 - 1)) (wrapped (of_z w32 a) (of_z w32 b)))
    ≡ clamped 32 (a +ℤ b)
saturated-lane a b fa fb = rw (sign-lane b fb, end-lane) (grind (arith, ints, clamps))

-- ---- vectors

-- the first `n` samples of a block, mixed as lanes and put back, are the mixed block's: below 32 bits, and at 32
pub limited-front : (bits n : ℕ) (least greatest : ℤ) (xs ys : List ℤ) → 1 ≤ bits → bits < 32 → least ≡ least_of bits → greatest ≡ greatest_of bits
    → FitsSigned w32 least → FitsSigned w32 greatest → n ≤ length xs → n ≤ length ys → All (FitsBits bits) xs → All (FitsBits bits) ys
    → put_chunk 0 xs (map (to_z w32) (limited_lanes n least greatest (take n xs) (take n ys))) ≡ mixed bits (take n xs) (take n ys) ++ drop n xs
limited-front bits zero least greatest [] ys some few low high fl fg h k p q = refl
limited-front bits zero least greatest (x ∷ xs) ys some few low high fl fg h k p q = refl
limited-front bits (suc n) least greatest [] ys some few low high fl fg h k p q = absurd (omega arith)
limited-front bits (suc n) least greatest (x ∷ xs) [] some few low high fl fg h k p q = absurd (omega arith)
limited-front bits (suc n) least greatest (x ∷ xs) (y ∷ ys) some few low high fl fg h k p q =
    let rest = limited-front bits n least greatest xs ys some few low high fl fg (omega arith) (omega arith) (All-tail (FitsBits bits) x xs p) (All-tail (FitsBits bits) y ys q) in
    let a = All-head (FitsBits bits) x xs p in
    let b = All-head (FitsBits bits) y ys q in
    let lane = limited-lane least greatest x y fl fg (FitsSigned-from_fewer bits x (omega arith) a) (FitsSigned-from_fewer bits y (omega arith) b) (FitsSigned-sum bits x y few a b) in
    let limited : int_max least (int_min (x +ℤ y) greatest) ≡ limited_sum bits x y = rw (low, high) refl in
    λ i. (lane ∙ limited) i ∷ rest i

pub saturated-front : (n : ℕ) (xs ys : List ℤ) → n ≤ length xs → n ≤ length ys → All (FitsBits 32) xs → All (FitsBits 32) ys
    → put_chunk 0 xs (map (to_z w32) (saturated_lanes n (take n xs) (take n ys))) ≡ mixed 32 (take n xs) (take n ys) ++ drop n xs
saturated-front zero [] ys h k p q = refl
saturated-front zero (x ∷ xs) ys h k p q = refl
saturated-front (suc n) [] ys h k p q = absurd (omega arith)
saturated-front (suc n) (x ∷ xs) [] h k p q = absurd (omega arith)
saturated-front (suc n) (x ∷ xs) (y ∷ ys) h k p q =
    let rest = saturated-front n xs ys (omega arith) (omega arith) (All-tail (FitsBits 32) x xs p) (All-tail (FitsBits 32) y ys q) in
    let a = FitsSigned-from_bits x (All-head (FitsBits 32) x xs p) in
    let b = FitsSigned-from_bits y (All-head (FitsBits 32) y ys q) in
    λ i. saturated-lane x y a b i ∷ rest i

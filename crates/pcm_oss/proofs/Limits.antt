-- The limits of fragments.
use Rattle.std.proofs.Common.{ℕ, zero, suc, ◌/◌, ◌%◌, ◌^◌, ◌≤◌, ◌<◌, arith}
use Rattle.std.proofs.Math.Nat.{pow-le-pow_right, div-mul-le_self, le-div_iff_mul-le, mul-le-mul_left, mul-le-mul_right}
use Rattle.pcm_oss.specs.declared.fragments.Fragments.{Fragments}
use Rattle.pcm_oss.specs.declared.fragments.TheConstants.{FRAGMENTS}
use Rattle.pcm_oss.specs.Fragments.{AreFragments, count_asked, fragment_size, fragments_asked, log_asked, ring_size}

-- a fragment has 16 to 65536 bytes
pub least-bytes : (fragments : Fragments) → AreFragments fragments → 16 ≤ fragment_size fragments
least-bytes fragments f = pow-le-pow_right {n = 2} (omega arith) {i = 4} {j = fragments.log} f.least_log

most_bytes : (log : ℕ) → log ≤ 16 → 2 ^ log ≤ 65536
most_bytes log most = pow-le-pow_right {n = 2} (omega arith) {i = log} {j = 16} most

pub most-bytes : (fragments : Fragments) → AreFragments fragments → fragment_size fragments ≤ 65536
most-bytes fragments f = most_bytes fragments.log f.most_log

-- a ring has at most 8192 fragments, and at least 32 bytes
pub most-count : (fragments : Fragments) → AreFragments fragments → fragments.count ≤ 8192
most-count fragments f =
    let wide = mul-le-mul_left fragments.count (least-bytes fragments f) in
    let fits = f.fits in
    omega arith

pub least-ring : (fragments : Fragments) → AreFragments fragments → 32 ≤ ring_size fragments
least-ring fragments f =
    let least = least-bytes fragments f in
    let more = mul-le-mul_right (fragment_size fragments) f.least_count in
    omega arith

-- two fragments fit always
pub two-fit : (log : ℕ) → log ≤ 16 → 2 ≤ 131072 / 2 ^ log
two-fit log most =
    let above : 0 < 2 ^ log = pow-le-pow_right {n = 2} (omega arith) {i = 0} {j = log} (omega arith) in
    let size = most_bytes log most in
    (le-div_iff_mul-le {k = 2 ^ log} {x = 2} {y = 131072} above).1 (omega arith)

-- at least two fragments, and no more than fit
pub are-fragments : (log count : ℕ) → 4 ≤ log → log ≤ 16 → 2 ≤ count → count ≤ 131072 / 2 ^ log → AreFragments (record { log = log; count = count })
are-fragments log count least most two fit =
    let within = mul-le-mul_right (2 ^ log) fit in
    let all = div-mul-le_self 131072 (2 ^ log) in
    record { least_log = least; most_log = most; least_count = two; fits = omega arith }

-- those of an opening
pub usual-fragments : AreFragments FRAGMENTS
usual-fragments = record { least_log = omega arith; most_log = omega arith; least_count = omega arith; fits = omega arith }

asked_count : (most asked : ℕ) → 2 ≤ most → (2 ≤ count_asked most asked) × (count_asked most asked ≤ most)
asked_count most zero two = (two, omega arith)
asked_count most (suc asked) two = (omega arith, omega arith)

-- those that a number asks for
pub asked-fragments : (arg : ℕ) → AreFragments (fragments_asked arg)
asked-fragments arg =
    let log : ℕ = log_asked arg in
    let high : log ≤ 16 = omega arith in
    let count = asked_count (131072 / 2 ^ log) (arg / 65536 % 32768) (two-fit log high) in
    are-fragments log (count_asked (131072 / 2 ^ log) (arg / 65536 % 32768)) (omega arith) high count.0 count.1

-- Filters that pass their tests are within their limits.
use Rattle.std.proofs.Common.{◌≡◌, ℕ, ◌+◌, ◌*◌, ◌/◌, ◌%◌, ◌≤◌, ◌==◌, ℤ, Bool, true, false, ◌&&◌, ◌||◌, nat_le, List, length, drop, refl, arith, inl, inr}
use Rattle.std.specs.Prelude.{◌⊎◌, neg_ℤ, int_le}
use Rattle.std.specs.List.{list_all}
use Rattle.std.proofs.lemmas.Bool.{and_parts, eqb-true, leb-true}
use Rattle.std.proofs.lemmas.Bool.Decides.{nat_tests}
use Rattle.std.proofs.lemmas.Int.{ints}
use Rattle.std.proofs.lemmas.List.{length-take, length-drop}
use Rattle.pcm_feeder.specs.Limits.{AreTableRates, AreTaps, IsCoef, IsTable}
use Rattle.pcm_feeder.specs.declared.limits.TheConstants.{COEF_MOST}
use Rattle.pcm_foreign.specs.declared.filters.FilterNumbers.{FilterNumbers}
use Rattle.pcm_foreign.specs.Devices.{is_rate}
use Rattle.pcm_foreign.specs.Filters.{IsThere, are_filter_rates, coefs_of, filter_from, has_coefs, is_filter_shape, is_coef, is_filter, are_phases, is_shift, are_taps, filter_size}
use Rattle.pcm_foreign.proofs.Judging.{all-are, rate-is}

-- one of two tests passes
either : (a b : Bool) {P Q : Type 0} → (a ≡ true → P) → (b ≡ true → Q) → (a || b) ≡ true → P ⊎ Q
either true b p q passes = inl (p refl)
either false b p q passes = inr (q passes)

rates-are : (src dst : ℕ) → are_filter_rates src dst ≡ true → AreTableRates src dst
rates-are src dst passes =
    either (src == 0 && dst == 0) (is_rate src && is_rate dst)
    (λ none. let (s, d) = and_parts (src == 0) (dst == 0) none in (eqb-true src 0 s, eqb-true dst 0 d))
    (λ both. let (s, d) = and_parts (is_rate src) (is_rate dst) both in (rate-is src s, rate-is dst d))
    passes

phases-are : (phases : ℕ) → are_phases phases ≡ true → (1 ≤ phases) × (phases ≤ 512)
phases-are phases passes = grind (arith, nat_tests)

shift-is : (shift : ℕ) → is_shift shift ≡ true → (1 ≤ shift) × (shift ≤ 30)
shift-is shift passes = grind (arith, nat_tests)

even-is : (taps : ℕ) → taps % 2 ≡ 0 → taps ≡ 2 * (taps / 2)
even-is taps even = omega arith

taps-are : (taps : ℕ) → are_taps taps ≡ true → AreTaps taps
taps-are taps passes =
    let (range, even) = and_parts (nat_le 2 taps && nat_le taps 64) (taps % 2 == 0) passes in
    let most : (2 ≤ taps) × (taps ≤ 64) = grind (arith, nat_tests) in
    record { even = even-is taps (eqb-true (taps % 2) 0 even); least = most.0; most = most.1 }

coef-is : (coef : ℤ) → is_coef coef ≡ true → IsCoef coef
coef-is coef passes =
    let (low, high) = and_parts (int_le (neg_ℤ COEF_MOST) coef) (int_le coef COEF_MOST) passes in
    record { low = grind (arith, ints); high = grind (arith, ints) }

-- coefficients that are there are as many as they must be
length-there : (coefs : List ℤ) (filter : FilterNumbers) → IsThere coefs filter → length (coefs_of coefs filter) ≡ filter_size filter
length-there coefs filter there =
    let taken = length-take (filter_size filter) (drop filter.first coefs) in
    let left = length-drop filter.first coefs in
    omega (arith, taken, left, there)

-- a filter that passes its test: what it has beside its coefficients, that these are there, and each of them
pub record HasPassed (coefs : List ℤ) (filter : FilterNumbers) : Type 0 where
  pub shape : is_filter_shape filter ≡ true
  pub there : IsThere coefs filter
  pub range : list_all is_coef (coefs_of coefs filter) ≡ true

pub passed : (coefs : List ℤ) (filter : FilterNumbers) → is_filter coefs filter ≡ true → HasPassed coefs filter
passed coefs filter passes =
    let (before, range) = and_parts (is_filter_shape filter && has_coefs coefs filter) (list_all is_coef (coefs_of coefs filter)) passes in
    let (shape, there) = and_parts (is_filter_shape filter) (has_coefs coefs filter) before in
    record { shape = shape; there = leb-true (filter.first + filter_size filter) (length coefs) there; range = range }

-- a filter that passes its test is within its limits
pub filter-is : (coefs : List ℤ) (filter : FilterNumbers) → is_filter coefs filter ≡ true → IsTable (filter_from coefs filter)
filter-is coefs filter passes =
    let known = passed coefs filter passes in
    let (sizes, shift) = and_parts (are_filter_rates filter.src filter.dst && are_phases filter.phases && are_taps filter.taps && nat_le (filter_size filter) 16384) (is_shift filter.shift) known.shape in
    let (counts, size) = and_parts (are_filter_rates filter.src filter.dst && are_phases filter.phases && are_taps filter.taps) (nat_le (filter_size filter) 16384) sizes in
    let (first, taps) = and_parts (are_filter_rates filter.src filter.dst && are_phases filter.phases) (are_taps filter.taps) counts in
    let (rates, phases) = and_parts (are_filter_rates filter.src filter.dst) (are_phases filter.phases) first in
    let rows = phases-are filter.phases phases in
    let bits = shift-is filter.shift shift in
    record {
      rates = rates-are filter.src filter.dst rates;
      least_phases = rows.0;
      most_phases = rows.1;
      taps = taps-are filter.taps taps;
      coefs = length-there coefs filter known.there;
      size = leb-true (filter_size filter) 16384 size;
      range = all-are is_coef IsCoef coef-is (coefs_of coefs filter) known.range;
      least_shift = bits.0;
      most_shift = bits.1;
    }

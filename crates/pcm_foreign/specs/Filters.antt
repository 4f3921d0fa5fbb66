-- The filters that numbers stand for.
use Rattle.std.specs.Prelude.{◌≤◌, ℕ, ◌+◌, ◌*◌, ◌%◌, ℤ, neg_ℤ, int_le, Bool, ◌&&◌, ◌||◌, ◌==◌, nat_le, List, length, take, drop}
use Rattle.std.specs.List.{list_all}
use Rattle.pcm_feeder.specs.declared.limits.TheConstants.{COEF_MOST, PHASES, SHIFT_MOST, TABLE_COEFS, TAPS}
use Rattle.pcm_feeder.specs.declared.table.Table.{Table}
use Rattle.pcm_foreign.specs.declared.filters.FilterNumbers.{FilterNumbers}
use Rattle.pcm_foreign.specs.Devices.{is_rate}

-- two rates, or none
abbrev pub are_filter_rates : ℕ → ℕ → Bool
are_filter_rates src dst = (src == 0 && dst == 0) || (is_rate src && is_rate dst)

-- at least one row, and no more phases than there may be
abbrev pub are_phases : ℕ → Bool
are_phases phases = nat_le 1 phases && nat_le phases PHASES

-- an even number of taps within its limit
abbrev pub are_taps : ℕ → Bool
are_taps taps = (nat_le 2 taps && nat_le taps TAPS) && taps % 2 == 0

-- a number of bits within its limit
abbrev pub is_shift : ℕ → Bool
is_shift shift = nat_le 1 shift && nat_le shift SHIFT_MOST

-- a coefficient within its limit on both sides of 0
abbrev pub is_coef : ℤ → Bool
is_coef coef = int_le (neg_ℤ COEF_MOST) coef && int_le coef COEF_MOST

-- how many coefficients a filter has
abbrev pub filter_size : FilterNumbers → ℕ
filter_size filter = filter.phases * filter.taps

-- all that a filter has beside its coefficients is within its limits
abbrev pub is_filter_shape : FilterNumbers → Bool
is_filter_shape filter =
    are_filter_rates filter.src filter.dst && are_phases filter.phases && are_taps filter.taps
    && nat_le (filter_size filter) TABLE_COEFS && is_shift filter.shift

-- a filter's coefficients are all among these
abbrev pub IsThere : List ℤ → FilterNumbers → Type 0
IsThere coefs filter = filter.first + filter_size filter ≤ length coefs

-- and whether they are
abbrev pub has_coefs : List ℤ → FilterNumbers → Bool
has_coefs coefs filter = nat_le (filter.first + filter_size filter) (length coefs)

-- the coefficients of a filter, among those of all
abbrev pub coefs_of : List ℤ → FilterNumbers → List ℤ
coefs_of coefs filter = take (filter_size filter) (drop filter.first coefs)

-- a filter within its limits, with its coefficients among these
abbrev pub is_filter : List ℤ → FilterNumbers → Bool
is_filter coefs filter = is_filter_shape filter && has_coefs coefs filter && list_all is_coef (coefs_of coefs filter)

-- the filter of numbers, with its coefficients out of these
abbrev pub filter_from : List ℤ → FilterNumbers → Table
filter_from coefs filter = record {
  src = filter.src;
  dst = filter.dst;
  phases = filter.phases;
  taps = filter.taps;
  shift = filter.shift;
  coefs = coefs_of coefs filter;
}

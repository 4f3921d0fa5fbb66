-- The filters of a configuration: a table for each, what that spells, and what it settles.
use Rattle.std.specs.Prelude.{ℕ, ℤ, Bool, true, false, not, ◌&&◌, ◌==◌, ◌*◌, ◌%◌, nat_le, if◌then◌else◌, List, [], ◌∷◌, length, Option, Some, None, Result, Ok, codes}
use Rattle.std.specs.List.{list_all, flat_map}
use Rattle.std.specs.Borrow.{Bor}
use Rattle.pcm_format.specs.declared.settings.TheConstants.{RATE_LEAST, RATE_MOST}
use Rattle.pcm_feeder.specs.declared.table.Table.{Table as Filter}
use Rattle.toml.specs.Data.{Data, Members, get_member, as_integer}
use Rattle.toml.specs.View.{view}
use Rattle.toml.specs.declared.value.Value.{Value}
use Rattle.pcm_config.specs.declared.fault.ConfigKind.TheVariants.{Kind, Range, Missing, Shape, Coef}
use Rattle.pcm_config.specs.declared.fault.ConfigRefusal.{ConfigRefusal}
use Rattle.pcm_config.specs.declared.filter.Spelled.{Spelled}
use Rattle.pcm_feeder.specs.declared.limits.TheConstants.{COEF_MOST, FILTERS, PHASES, SHIFT_MOST, TABLE_COEFS, TAPS}
use Rattle.pcm_config.specs.declared.place.ConfigPlace.TheVariants.{Tables}
use Rattle.pcm_config.specs.Judgements.{◌>>=◌, fault_at, required}
use Rattle.pcm_config.specs.Lists.{few_read}
use Rattle.pcm_config.specs.Lookups.{value_seen, of_kind, each_as, as_array_of}
use Rattle.pcm_config.specs.Rows.{as_coef, in_range}

-- the keys that a filter's table may have
abbrev pub filter_keys : List (List ℕ)
filter_keys = codes "src" ∷ codes "dst" ∷ codes "shift" ∷ codes "rows" ∷ []

-- ---- what a table spells

-- a value as whole numbers
abbrev pub numbers_in : Data → Option (List ℤ)
numbers_in value = as_array_of as_integer value

-- a value as rows of whole numbers
abbrev pub rows_in : Data → Option (List (List ℤ))
rows_in value = as_array_of numbers_in value

-- the rates and the shift, and then the rows, each of its kind
unfoldable pub spelled_in : Option Data → Option Data → Data → Data → Result Spelled ConfigRefusal
spelled_in src dst shift rows = do
  from ← of_kind as_integer Tables src
  to ← of_kind as_integer Tables dst
  bits ← required Kind Tables (as_integer shift)
  lists ← required Kind Tables (rows_in rows)
  Ok (record { src = from; dst = to; shift = bits; rows = lists })

-- and of the values as the code holds them
abbrev pub spelled_held : Option (Bor Value) → Option (Bor Value) → Value → Value → Result Spelled ConfigRefusal
spelled_held src dst shift rows = spelled_in (value_seen src) (value_seen dst) (view shift) (view rows)

-- ---- what a table settles

-- a rate of a filter, which is 0 where it is left out
abbrev pub filter_rate : Option ℤ → Option ℕ
filter_rate None = Some 0
filter_rate (Some rate) = in_range RATE_LEAST RATE_MOST rate

-- the numbers of the first row
abbrev pub taps_of : List (List ℤ) → ℕ
taps_of [] = 0
taps_of (row ∷ rows) = length row

-- an even number of taps within its limit
abbrev pub is_taps : ℕ → Bool
is_taps taps = (nat_le 2 taps && nat_le taps TAPS) && taps % 2 == 0

-- at least one row, and no more phases than there may be
abbrev pub is_phases : ℕ → Bool
is_phases phases = nat_le 1 phases && nat_le phases PHASES

-- rows of one length, as many and as long as they may be
abbrev pub has_filter_shape : List (List ℤ) → Bool
has_filter_shape rows =
    ((is_phases (length rows) && is_taps (taps_of rows)) && list_all (λ row. length row == taps_of rows) rows)
    && nat_le (length rows * taps_of rows) TABLE_COEFS

-- a coefficient, if it is within its limit on both sides of 0
abbrev pub filter_coef : ℤ → Option ℤ
filter_coef = as_coef COEF_MOST

-- the coefficients of rows, one row after another
abbrev pub coefs_in : List (List ℤ) → Option (List ℤ)
coefs_in rows = each_as filter_coef (flat_map (λ row. row) rows)

-- a filter with these rates and this shift: first the rows have a shape, and then each coefficient is within its limit
unfoldable pub shaped : ℕ → ℕ → ℕ → List (List ℤ) → Result Filter ConfigRefusal
shaped src dst shift rows =
    if not (has_filter_shape rows) then fault_at Shape Tables
    else do
      coefs ← required Coef Tables (coefs_in rows)
      Ok (record { src = src; dst = dst; phases = length rows; taps = taps_of rows; shift = shift; coefs = coefs })

-- what is spelled, as a filter: first its rates and its shift are in their sets
unfoldable pub settled_filter : Spelled → Result Filter ConfigRefusal
settled_filter spelled = do
  src ← required Range Tables (filter_rate spelled.src)
  dst ← required Range Tables (filter_rate spelled.dst)
  shift ← required Range Tables (in_range 1 SHIFT_MOST spelled.shift)
  shaped src dst shift spelled.rows

-- both of two values are there, or neither
abbrev pub come_together : Option Data → Option Data → Bool
come_together None None = true
come_together (Some src) (Some dst) = true
come_together src dst = false

-- The filter of what stands at the four keys. The shift and the rows must be there, and the rates both or neither.
abbrev pub filter_with : Option Data → Option Data → Option Data → Option Data → Result Filter ConfigRefusal
filter_with src dst (Some shift) (Some rows) =
    if come_together src dst then spelled_in src dst shift rows >>= settled_filter
    else fault_at Missing Tables
filter_with src dst shift rows = fault_at Missing Tables

-- and of the values as the code holds them
abbrev pub filter_held : Option (Bor Value) → Option (Bor Value) → Option (Bor Value) → Option (Bor Value) → Result Filter ConfigRefusal
filter_held src dst shift rows = filter_with (value_seen src) (value_seen dst) (value_seen shift) (value_seen rows)

-- the filter of a table
unfoldable pub filter_in : Members → Result Filter ConfigRefusal
filter_in table =
    filter_with (get_member (codes "src") table) (get_member (codes "dst") table) (get_member (codes "shift") table) (get_member (codes "rows") table)

-- the filters of tables, of which there are no more than `FILTERS`
abbrev pub filters_in : List Members → Result (List Filter) ConfigRefusal
filters_in tables = few_read FILTERS Tables filter_in tables

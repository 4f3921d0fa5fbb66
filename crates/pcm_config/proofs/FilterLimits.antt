-- The filters that are read keep their limits.
use Rattle.std.proofs.Common.{◌≡◌, ℕ, suc, ◌*◌, ◌/◌, ◌%◌, ◌≤◌, ◌==◌, ℤ, Bool, true, false, not, ◌&&◌, cond, nat_le, List, [], ◌∷◌, length, Option, Some, None, option_map, Result, Ok, Err, refl, ap, ◌∙◌, inl, inr, arith, IfOk}
use Rattle.std.specs.Prelude.{IfSome}
use Rattle.std.specs.List.{flat_map, list_all}
use Rattle.std.proofs.lemmas.Bool.{and_parts, eqb-true, false≢true}
use Rattle.std.proofs.lemmas.Bool.Decides.{nat_tests}
use Rattle.std.proofs.lemmas.List.{length-append}
use Rattle.std.proofs.lemmas.List.Elements.{All-nil, All-cons}
use Rattle.pcm_feeder.specs.Limits.{AreTableRates, AreTaps, IsCoef, IsRate, IsTable}
use Rattle.toml.specs.Data.{Data, Members, as_integer}
use Rattle.pcm_config.specs.declared.fault.ConfigKind.TheVariants.{Kind, Range, Coef}
use Rattle.pcm_config.specs.declared.filter.Spelled.{Spelled}
use Rattle.pcm_feeder.specs.declared.limits.TheConstants.{COEF_MOST, FILTERS, SHIFT_MOST}
use Rattle.pcm_config.specs.declared.place.ConfigPlace.TheVariants.{Tables}
use Rattle.pcm_config.specs.Lists.{AreFew}
use Rattle.pcm_config.specs.Judgements.{◌>>=◌, required}
use Rattle.pcm_config.specs.Lookups.{each_as, of_kind, with_first}
use Rattle.pcm_config.specs.Rows.{in_range}
use Rattle.pcm_config.specs.Filters.{coefs_in, come_together, filter_coef, filter_in, filter_rate, filter_with, filters_in, has_filter_shape, is_phases, is_taps, rows_in, settled_filter, shaped, spelled_in, taps_of}
use Rattle.pcm_config.proofs.Judging.{AreKept, IsBetween, after-any, after-kept, coef-kept, not-false, passed, range-kept, required-kept}
use Rattle.pcm_config.proofs.EachTable.{few-kept}

-- ---- rates: both or neither

abbrev AreAlike : Option ℤ → Option ℤ → Type 0
AreAlike None None = Unit {0}
AreAlike None (Some dst) = ⊥
AreAlike (Some src) None = ⊥
AreAlike (Some src) (Some dst) = Unit {0}

abbrev IsThere : Option ℤ → Type 0
IsThere None = ⊥
IsThere (Some rate) = Unit {0}

both-there : (src dst : Option ℤ) → IsThere src → IsThere dst → AreAlike src dst
both-there (Some src) (Some dst) s d = tt
both-there (Some src) None s d = absurd d
both-there None dst s d = absurd s

kind-there : (found : Option ℤ) → IfSome (option_map Some found) IsThere
kind-there None = tt
kind-there (Some rate) = tt

rate-there : (value : Data) → IfOk (of_kind as_integer Tables (Some value)) IsThere
rate-there value = required-kept Kind Tables (option_map Some (as_integer value)) IsThere (kind-there (as_integer value))

abbrev IsRateOf : Option ℤ → ℕ → Type 0
IsRateOf None rate = rate ≡ 0
IsRateOf (Some spelled) rate = IsRate rate

rate-between : (rate : ℕ) → IsBetween 4000 192000 rate → IsRate rate
rate-between rate both = record { least = both.0; most = both.1 }

some-more : {A : Type 0} (found : Option A) (P Q : A → Type 0) → ((value : A) → P value → Q value) → IfSome found P → IfSome found Q
some-more None P Q more known = tt
some-more (Some value) P Q more known = more value known

rate-kept : (spelled : Option ℤ) → IfSome (filter_rate spelled) (IsRateOf spelled)
rate-kept None = refl
rate-kept (Some rate) = some-more (in_range 4000 192000 rate) (IsBetween 4000 192000) IsRate rate-between (range-kept 4000 192000 rate)

ranged-kept : (spelled : Option ℤ) → IfOk (required Range Tables (filter_rate spelled)) (IsRateOf spelled)
ranged-kept spelled = required-kept Range Tables (filter_rate spelled) (IsRateOf spelled) (rate-kept spelled)

rates-kept : (from to : Option ℤ) (src dst : ℕ) → AreAlike from to → IsRateOf from src → IsRateOf to dst → AreTableRates src dst
rates-kept None None src dst alike s d = inl (s, d)
rates-kept (Some from) (Some to) src dst alike s d = inr (s, d)
rates-kept None (Some to) src dst alike s d = absurd alike
rates-kept (Some from) None src dst alike s d = absurd alike

-- ---- the shape of rows

record IsShape (rows : List (List ℤ)) : Type 0 where
  pub phases : IsBetween 1 512 (length rows)
  pub taps : AreTaps (taps_of rows)
  pub each : list_all (λ row. length row == taps_of rows) rows ≡ true
  pub size : length rows * taps_of rows ≤ 16384

phases-are : (phases : ℕ) → is_phases phases ≡ true → IsBetween 1 512 phases
phases-are phases passes = grind (arith, nat_tests)

even-is : (taps : ℕ) → taps % 2 ≡ 0 → taps ≡ 2 * (taps / 2)
even-is taps even = omega arith

taps-are : (taps : ℕ) → is_taps taps ≡ true → AreTaps taps
taps-are taps passes =
    let (range, even) = and_parts (nat_le 2 taps && nat_le taps 64) (taps % 2 == 0) passes in
    let most : IsBetween 2 64 taps = grind (arith, nat_tests) in
    record { even = even-is taps (eqb-true (taps % 2) 0 even); least = most.0; most = most.1 }

size-is : (size : ℕ) → nat_le size 16384 ≡ true → size ≤ 16384
size-is size passes = grind (arith, nat_tests)

shape-is : (rows : List (List ℤ)) → has_filter_shape rows ≡ true → IsShape rows
shape-is rows passes =
    let (lengths, size) =
    and_parts ((is_phases (length rows) && is_taps (taps_of rows)) && list_all (λ row. length row == taps_of rows) rows) (nat_le (length rows * taps_of rows) 16384) passes in
    let (counts, each) = and_parts (is_phases (length rows) && is_taps (taps_of rows)) (list_all (λ row. length row == taps_of rows) rows) lengths in
    let (phases, taps) = and_parts (is_phases (length rows)) (is_taps (taps_of rows)) counts in
    record { phases = phases-are (length rows) phases; taps = taps-are (taps_of rows) taps; each = each; size = size-is (length rows * taps_of rows) size }

-- rows of one length have as many numbers as rows, times that
length-joined : (taps : ℕ) (rows : List (List ℤ)) → list_all (λ row. length row == taps) rows ≡ true → length (flat_map (λ row. row) rows) ≡ length rows * taps
length-joined taps [] each = omega arith
length-joined taps (row ∷ rows) each =
    let (first, others) = and_parts (length row == taps) (list_all (λ r. length r == taps) rows) each in
    length-append row (flat_map (λ r. r) rows) ∙ omega (arith, eqb-true (length row) taps first, length-joined taps rows others)

-- ---- coefficients

first-kept : {B : Type 0} (P : B → Type 0) (count : ℕ) (first : Option B) (others : Option (List B))
    → IfSome first P → IfSome others (AreKept P count) → IfSome (with_first first others) (AreKept P (suc count))
first-kept P count None others f o = tt
first-kept P count (Some value) None f o = tt
first-kept P count (Some value) (Some values) f o = (ap suc o.0, All-cons P value values f o.1)

each-kept : {A B : Type 0} (P : B → Type 0) (as_kind : A → Option B) → ((value : A) → IfSome (as_kind value) P)
    → (values : List A) → IfSome (each_as as_kind values) (AreKept P (length values))
each-kept P as_kind known [] = (refl, All-nil P)
each-kept P as_kind known (value ∷ values) =
    first-kept P (length values) (as_kind value) (each_as as_kind values) (known value) (each-kept P as_kind known values)

-- ---- a filter

shaped-kept : (src dst shift : ℕ) (rows : List (List ℤ)) → AreTableRates src dst → IsBetween 1 30 shift → IfOk (shaped src dst shift rows) IsTable
unfolding shaped
shaped-kept src dst shift rows rates bits =
    passed (not (has_filter_shape rows)) _ _ IsTable (λ has.
    let shape = shape-is rows (not-false _ has) in
    let numbers = flat_map (λ row. row) rows in
    after-kept (required Coef Tables (coefs_in rows)) _ (AreKept IsCoef (length numbers)) IsTable
    (required-kept Coef Tables (coefs_in rows) (AreKept IsCoef (length numbers)) (each-kept IsCoef filter_coef (coef-kept COEF_MOST) numbers)) (λ coefs kept.
    record {
      rates = rates;
      least_phases = shape.phases.0;
      most_phases = shape.phases.1;
      taps = shape.taps;
      coefs = kept.0 ∙ length-joined (taps_of rows) rows shape.each;
      size = shape.size;
      range = kept.1;
      least_shift = bits.0;
      most_shift = bits.1;
    }))

settled-kept : (spelled : Spelled) → AreAlike spelled.src spelled.dst → IfOk (settled_filter spelled) IsTable
unfolding settled_filter
settled-kept spelled alike =
    after-kept (required Range Tables (filter_rate spelled.src)) _ (IsRateOf spelled.src) IsTable (ranged-kept spelled.src) (λ src s.
    after-kept (required Range Tables (filter_rate spelled.dst)) _ (IsRateOf spelled.dst) IsTable (ranged-kept spelled.dst) (λ dst d.
    after-kept (required Range Tables (in_range 1 SHIFT_MOST spelled.shift)) _ (IsBetween 1 30) IsTable
    (required-kept Range Tables (in_range 1 30 spelled.shift) (IsBetween 1 30) (range-kept 1 30 spelled.shift)) (λ shift bits.
    shaped-kept src dst shift spelled.rows (rates-kept spelled.src spelled.dst src dst alike s d) bits)))

rest-kept : (src dst : Option ℤ) (shift rows : Data) → AreAlike src dst
    → IfOk {T = Spelled} (required Kind Tables (as_integer shift) >>= (λ bits. required Kind Tables (rows_in rows) >>= (λ lists. Ok (record { src = src; dst = dst; shift = bits; rows = lists })))) (λ spelled. AreAlike spelled.src spelled.dst)
rest-kept src dst shift rows alike =
    after-any (required Kind Tables (as_integer shift)) _ _ (λ bits.
    after-any (required Kind Tables (rows_in rows)) _ _ (λ lists. alike))

spelled-kept : (src dst : Option Data) (shift rows : Data) → come_together src dst ≡ true → IfOk (spelled_in src dst shift rows) (λ spelled. AreAlike spelled.src spelled.dst)
unfolding spelled_in
spelled-kept None None shift rows both = rest-kept None None shift rows tt
spelled-kept (Some src) (Some dst) shift rows both =
    after-kept (of_kind as_integer Tables (Some src)) _ IsThere _ (rate-there src) (λ from f.
    after-kept (of_kind as_integer Tables (Some dst)) _ IsThere _ (rate-there dst) (λ to t.
    rest-kept from to shift rows (both-there from to f t)))
spelled-kept None (Some dst) shift rows both = absurd (false≢true both)
spelled-kept (Some src) None shift rows both = absurd (false≢true both)

-- what passes a test that else refuses, where the test says what is good
allowed : {A E : Type 0} (test : Bool) (fault : E) (read : Result A E) (Q : A → Type 0) → (test ≡ true → IfOk read Q) → IfOk (cond test read (Err fault)) Q
allowed true fault read Q after = after refl
allowed false fault read Q after = tt

with-kept : (src dst shift rows : Option Data) → IfOk (filter_with src dst shift rows) IsTable
with-kept src dst (Some shift) (Some rows) =
    allowed (come_together src dst) _ (spelled_in src dst shift rows >>= settled_filter) IsTable (λ both.
    after-kept (spelled_in src dst shift rows) settled_filter (λ spelled. AreAlike spelled.src spelled.dst) IsTable (spelled-kept src dst shift rows both) settled-kept)
with-kept src dst (Some shift) None = tt
with-kept src dst None rows = tt

filter-kept : (table : Members) → IfOk (filter_in table) IsTable
unfolding filter_in
filter-kept table = with-kept _ _ _ _

-- ---- all filters

-- the filters of a configuration are within their limits
pub filters-kept : (tables : List Members) → IfOk (filters_in tables) (AreFew FILTERS IsTable)
filters-kept tables = few-kept FILTERS Tables IsTable filter_in filter-kept tables

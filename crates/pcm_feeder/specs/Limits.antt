-- The limits of what a stage is fitted to, of filters, of sections and of gains.
use Rattle.std.specs.Prelude.{◌≡◌, ◌≤◌, ◌⊎◌, ◌*◌, ◌/◌, ℕ, ℤ, neg_ℤ, ◌≤ℤ◌, length, All, IsSomeAnd, slice_get}
use Rattle.pcm_format.specs.declared.settings.TheConstants.{RATE_LEAST, RATE_MOST}
use Rattle.pcm_feeder.specs.declared.limits.TheConstants.{COEF_MOST, FILTERS, PHASES, SECTION_COEF_MOST, SECTION_SHIFT_MOST, SECTIONS, SHIFT_MOST, TABLE_COEFS, TAPS}
use Rattle.pcm_feeder.specs.declared.section.Section.{Section}
use Rattle.pcm_feeder.specs.declared.stage.Gain.{Gain}
use Rattle.pcm_feeder.specs.declared.stage.Spec.{Spec}
use Rattle.pcm_feeder.specs.declared.stage.Spec.TheVariants.{Hold, Linear, Poly, Depth, Eq}
use Rattle.pcm_feeder.specs.declared.table.Table.{Table}
use Rattle.pcm_feeder.specs.Filters.{Filters}

-- a coefficient no farther from 0 than a bound
pub record IsCoefWithin (most : ℤ) (number : ℤ) : Type 0 where
  pub low : neg_ℤ most ≤ℤ number
  pub high : number ≤ℤ most

-- a coefficient of a filter
abbrev pub IsCoef : ℤ → Type 0
IsCoef = IsCoefWithin COEF_MOST

-- a coefficient of a section
abbrev pub IsSectionCoef : ℤ → Type 0
IsSectionCoef = IsCoefWithin SECTION_COEF_MOST

-- an even number of taps from 2 on
pub record AreTaps (taps : ℕ) : Type 0 where
  pub even : taps ≡ 2 * (taps / 2)
  pub least : 2 ≤ taps
  pub most : taps ≤ TAPS

-- a rate in frames per second
pub record IsRate (rate : ℕ) : Type 0 where
  pub least : RATE_LEAST ≤ rate
  pub most : rate ≤ RATE_MOST

-- the rates of a filter: both, or neither
abbrev pub AreTableRates : ℕ → ℕ → Type 0
AreTableRates src dst = ((src ≡ 0) × (dst ≡ 0)) ⊎ (IsRate src × IsRate dst)

-- a filter within its limits, with a coefficient for each phase and tap
pub record IsTable (table : Table) : Type 0 where
  pub rates : AreTableRates table.src table.dst
  pub least_phases : 1 ≤ table.phases
  pub most_phases : table.phases ≤ PHASES
  pub taps : AreTaps table.taps
  pub coefs : length table.coefs ≡ table.phases * table.taps
  pub size : table.phases * table.taps ≤ TABLE_COEFS
  pub range : All IsCoef table.coefs
  pub least_shift : 1 ≤ table.shift
  pub most_shift : table.shift ≤ SHIFT_MOST

-- a section within its limits
pub record IsSection (section : Section) : Type 0 where
  pub least_shift : 1 ≤ section.shift
  pub most_shift : section.shift ≤ SECTION_SHIFT_MOST
  pub b0 : IsSectionCoef section.b0
  pub b1 : IsSectionCoef section.b1
  pub b2 : IsSectionCoef section.b2
  pub a1 : IsSectionCoef section.a1
  pub a2 : IsSectionCoef section.a2

-- the filters and sections of a run: no more of them than may be, and each within its limits
pub record AreFilters (filters : Filters) : Type 0 where
  pub count : length filters.list ≤ FILTERS
  pub each : All IsTable filters.list
  pub few : length filters.sections ≤ SECTIONS
  pub sections : All IsSection filters.sections

-- as many channels as a layout may have
pub record AreChannels (channels : ℕ) : Type 0 where
  pub least : 1 ≤ channels
  pub most : channels ≤ 8

-- a change of rate within the limits
pub record IsChange (src dst channels : ℕ) : Type 0 where
  pub source : IsRate src
  pub target : IsRate dst
  pub within : AreChannels channels

-- a filter's change of rate within the limits
pub record IsFilter (src dst channels taps : ℕ) : Type 0 where
  pub change : IsChange src dst channels
  pub row : AreTaps taps

-- a number of bits within the limits
pub record IsDepth (bits channels : ℕ) : Type 0 where
  pub least : 1 ≤ bits
  pub most : bits ≤ 32
  pub within : AreChannels channels

-- a number of sections within the limits
pub record IsEqualiser (channels sections : ℕ) : Type 0 where
  pub within : AreChannels channels
  pub least : 1 ≤ sections
  pub most : sections ≤ SECTIONS

-- what a stage may be fitted to
abbrev pub IsSpec : Spec → Type 0
IsSpec (Hold src dst channels) = IsChange src dst channels
IsSpec (Linear src dst channels) = IsChange src dst channels
IsSpec (Poly src dst channels table taps) = IsFilter src dst channels taps
IsSpec (Depth bits channels) = IsDepth bits channels
IsSpec (Eq channels sections) = IsEqualiser channels sections
IsSpec _ = Unit {0}

-- a gain of at most one on each side
pub record IsGain (gain : Gain) : Type 0 where
  pub left : gain.left ≤ 65536
  pub right : gain.right ≤ 65536

-- a filter's table is there, with the taps that the stage was fitted to; there are as many sections
abbrev pub HasTable : Spec → Filters → Type 0
HasTable (Poly src dst channels table taps) tables =
    IsSomeAnd (slice_get tables.list table) (λ found. found.taps ≡ taps)
HasTable (Eq channels sections) tables = length tables.sections ≡ sections
HasTable _ tables = Unit {0}

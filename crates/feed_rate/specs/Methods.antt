-- What a converter is apart from its rates: how it interpolates, and on how many channels.
use Rattle.std.specs.Prelude.{◌≡◌, ◌/◌, ℕ, IsSomeAnd, slice_get}
use Rattle.pcm_rate.specs.declared.rate.Rate.{Rate}
use Rattle.pcm_feeder.specs.declared.stage.Spec.{Spec}
use Rattle.pcm_feeder.specs.declared.stage.Spec.TheVariants as specs
use Rattle.pcm_feeder.specs.Filters.{Filters}
use Rattle.pcm_feeder.specs.Stages.{Converter, table_at, held, on_line, filtered_frame}

-- by the frame itself, on the line to the next, or by the filter at a place, with its number of taps
pub data Method : Type 0 where
  ByFrame : ℕ → Method
  ByLine : ℕ → Method
  ByFilter : ℕ → ℕ → ℕ → Method

-- a method between two rates
abbrev pub spec_of : Method → Rate → Spec
spec_of (ByFrame channels) rate = specs.Hold rate.src rate.dst channels
spec_of (ByLine channels) rate = specs.Linear rate.src rate.dst channels
spec_of (ByFilter channels table taps) rate = specs.Poly rate.src rate.dst channels table taps

-- how many channels a frame has
abbrev pub channels_by : Method → ℕ
channels_by (ByFrame channels) = channels
channels_by (ByLine channels) = channels
channels_by (ByFilter channels table taps) = channels

-- how many frames past the one under it an output uses
abbrev pub lookahead_by : Method → ℕ
lookahead_by (ByFrame channels) = 0
lookahead_by (ByLine channels) = 1
lookahead_by (ByFilter channels table taps) = taps / 2

-- how many frames of the past are kept
abbrev pub history_by : Method → ℕ
history_by (ByFrame channels) = 1
history_by (ByLine channels) = 2
history_by (ByFilter channels table taps) = taps

-- what an output is, where the target rate is dst
abbrev pub converter_by : Method → Filters → ℕ → Converter
converter_by (ByFrame channels) tables dst = held
converter_by (ByLine channels) tables dst = on_line dst
converter_by (ByFilter channels table taps) tables dst =
    filtered_frame (table_at tables table) taps channels dst

-- a filter's table is there, with its taps
abbrev pub HasFilter : Method → Filters → Type 0
HasFilter (ByFilter channels table taps) tables =
    IsSomeAnd (slice_get tables.list table) (λ found. found.taps ≡ taps)
HasFilter _ tables = Unit {0}

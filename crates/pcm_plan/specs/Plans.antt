-- Which stages a stream goes through, from settings to settings.
use Rattle.std.specs.Prelude.{◌≡◌, ℕ, Bool, ◌&&◌, ◌==◌, nat_le, if◌then◌else◌, Option, Some, None, List, [], ◌∷◌, ◌++◌, length, position}
use Rattle.pcm_format.specs.declared.layout.Layout.{Layout}
use Rattle.pcm_format.specs.declared.settings.Settings.{Settings}
use Rattle.pcm_format.specs.Formats.{bits_of}
use Rattle.pcm_format.specs.Layouts.{channels_of}
use Rattle.pcm_rate.specs.declared.rate.Rate.{Rate}
use Rattle.pcm_rate.specs.Rates.{unchanged}
use Rattle.pcm_feeder.specs.declared.stage.Spec.{Spec}
use Rattle.pcm_feeder.specs.declared.stage.Spec.TheVariants.{Matrix, Hold, Linear, Poly, Volume, Depth, Eq}
use Rattle.pcm_feeder.specs.declared.table.Table.{Table}
use Rattle.pcm_feeder.specs.Filters.{Filters}
use Rattle.pcm_feeder.specs.Limits.{IsRate, AreFilters}
use Rattle.pcm_feeder.specs.Stages.{rate_of, table_at}

-- a plan: the layouts of both ends, and the stages between them, the first one first
pub record PlanSeen : Type 0 where
  pub source : Layout
  pub target : Layout
  pub stages : List Spec

-- a stage, where there is one
abbrev pub some_stages : Option Spec → List Spec
some_stages None = []
some_stages (Some spec) = spec ∷ []

-- from layout to layout; between equal ones there is no stage
abbrev pub matrix_stages : Layout → Layout → List Spec
matrix_stages from to = if channels_of from == channels_of to then [] else Matrix from to ∷ []

-- a filter is for these rates
abbrev pub is_for : ℕ → ℕ → Table → Bool
is_for src dst table = table.src == src && table.dst == dst

-- the first place, or else the second
abbrev pub or_else : Option ℕ → Option ℕ → Option ℕ
or_else None other = other
or_else (Some place) other = Some place

-- the place of the filter for two rates: the first one for these, else the first one for any
abbrev pub filter_for : Filters → ℕ → ℕ → Option ℕ
filter_for tables src dst =
    or_else (position (is_for src dst) tables.list) (position (is_for 0 0) tables.list)

-- a converter by the filter at a place, or by lines where there is none
abbrev pub filter_or_line : Filters → ℕ → ℕ → ℕ → Option ℕ → Spec
filter_or_line tables src dst channels None = Linear src dst channels
filter_or_line tables src dst channels (Some place) =
    Poly src dst channels place (table_at tables place).taps

-- the converter of a quality: 0 holds, 1 draws lines, and from 2 on it filters
abbrev pub converter_of : Filters → ℕ → ℕ → ℕ → ℕ → Spec
converter_of tables quality src dst channels =
    if quality == 0 then Hold src dst channels
    else if quality == 1 then Linear src dst channels
    else filter_or_line tables src dst channels (filter_for tables src dst)

-- from rate to rate; between equal ones there is no stage
abbrev pub rate_stages : Filters → ℕ → ℕ → ℕ → ℕ → List Spec
rate_stages tables quality src dst channels =
    if src == dst then [] else converter_of tables quality src dst channels ∷ []

-- to the bits of a format, where these are fewer than 32
abbrev pub depth_stages : ℕ → ℕ → List Spec
depth_stages bits channels = if bits == 32 then [] else Depth bits channels ∷ []

-- the equaliser of frames of `channels` channels, where there are sections
abbrev pub equaliser_stages : Filters → ℕ → List Spec
equaliser_stages tables channels =
    if length tables.sections == 0 then [] else Eq channels (length tables.sections) ∷ []

-- To another layout and rate. The rate is changed where there are fewer channels: after the
-- matrix, unless that adds some.
abbrev pub converting : Filters → ℕ → Settings → Settings → List Spec
converting tables quality source target =
    let matrix = matrix_stages source.layout target.layout in
    if nat_le (channels_of target.layout) (channels_of source.layout)
    then matrix ++ rate_stages tables quality source.rate target.rate (channels_of target.layout)
    else rate_stages tables quality source.rate target.rate (channels_of source.layout) ++ matrix

-- both have a rate that there can be
pub record AreRated (one other : Settings) : Type 0 where
  pub client : IsRate one.rate
  pub device : IsRate other.rate

-- a client's way into a device, which always has its volume, directly after the equaliser
abbrev pub plan_play : Filters → ℕ → Settings → Settings → PlanSeen
plan_play tables quality client device = record {
  source = client.layout;
  target = device.layout;
  stages = converting tables quality client device
      ++ (equaliser_stages tables (channels_of device.layout)
      ++ Volume device.layout ∷ depth_stages (bits_of device.format) (channels_of device.layout));
}

-- a device's way to a client that records, which has no equaliser and no volume
abbrev pub plan_record : Filters → ℕ → Settings → Settings → PlanSeen
plan_record tables quality client device = record {
  source = device.layout;
  target = client.layout;
  stages = converting tables quality device client
      ++ depth_stages (bits_of client.format) (channels_of client.layout);
}

-- a plan is found by tables within their limits
pub record IsPlanOf (tables : Filters) (plan found : PlanSeen) : Type 0 where
  pub value : found ≡ plan
  pub limits : AreFilters tables

-- the rate of stages: that of the one that changes it
abbrev pub rate_among : List Spec → Rate
rate_among [] = unchanged
rate_among (Hold src dst channels ∷ specs) = rate_of (Hold src dst channels)
rate_among (Linear src dst channels ∷ specs) = rate_of (Linear src dst channels)
rate_among (Poly src dst channels table taps ∷ specs) = rate_of (Poly src dst channels table taps)
rate_among (_ ∷ specs) = rate_among specs

-- The rate of a plan, whose `need`, `can` and `len` are those of the plan.
abbrev pub rate_in_plan : PlanSeen → Rate
rate_in_plan plan = rate_among plan.stages

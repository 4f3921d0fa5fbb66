-- The values that may be settled, a row for each: where it stands, what it must be, its set, and what it is where it is left out.
use Rattle.std.specs.Prelude.{ℕ, ℤ, pos, negsuc, neg_ℤ, int_le, ◌&&◌, nat_le, if◌then◌else◌, List, Option, Some, None, codes}
use Rattle.std.specs.Str.{bytes_eq}
use Rattle.pcm_format.specs.declared.format.Format.{Format}
use Rattle.pcm_format.specs.declared.format.Format.TheVariants.{S16Le}
use Rattle.pcm_format.specs.declared.layout.Layout.{Layout}
use Rattle.pcm_format.specs.declared.layout.Layout.TheVariants.{Two}
use Rattle.pcm_format.specs.Formats.{format_named}
use Rattle.pcm_format.specs.Layouts.{layout_of}
use Rattle.toml.specs.Data.{Data, as_integer, as_str}
use Rattle.pcm_config.specs.declared.config.Container.{Container}
use Rattle.pcm_config.specs.declared.config.Container.TheVariants.{Raw, Wav}
use Rattle.pcm_config.specs.declared.fault.ConfigKind.{ConfigKind}
use Rattle.pcm_config.specs.declared.fault.ConfigKind.TheVariants.{Range, Name}
use Rattle.pcm_config.specs.declared.place.ConfigPlace.{ConfigPlace}
use Rattle.pcm_config.specs.declared.place.ConfigPlace.TheVariants.{DeviceFormat, DeviceChannels, DeviceRate, DeviceHwBlock, DeviceHwBlocks, DeviceContainer, VchansPlay, VchansRecord, VchansQuality, VchansRate, VchansChannels, VchansMapped}

-- a value that is spelled as an A and means a B
pub record ConfigRow (A B : Type 0) : Type 0 where
  pub place : ConfigPlace
  pub as_kind : Data → Option A
  pub in_set : A → Option B
  pub fault : ConfigKind
  pub usual : B

-- a number from `least` to `most`
abbrev pub in_range : ℕ → ℕ → ℤ → Option ℕ
in_range least most (pos number) = if nat_le least number && nat_le number most then Some number else None
in_range least most (negsuc number) = None

-- a coefficient, if it is at most `most` from 0
abbrev pub as_coef : ℤ → ℤ → Option ℤ
as_coef most number = if int_le (neg_ℤ most) number && int_le number most then Some number else None

-- the layout with this many channels
abbrev pub layout_with : ℤ → Option Layout
layout_with (pos channels) = layout_of channels
layout_with (negsuc number) = None

-- the form of a file that a word names
abbrev pub container_named : List ℕ → Option Container
container_named word =
    if bytes_eq word (codes "raw") then Some Raw
    else if bytes_eq word (codes "wav") then Some Wav
    else None

-- a row of numbers
abbrev pub numbers : ConfigPlace → ℕ → ℕ → ℕ → ConfigRow ℤ ℕ
numbers place least most usual =
    record { place = place; as_kind = as_integer; in_set = in_range least most; fault = Range; usual = usual }

-- a row of words
abbrev pub words : {B : Type 0} → ConfigPlace → (List ℕ → Option B) → B → ConfigRow (List ℕ) B
words place named usual = record { place = place; as_kind = as_str; in_set = named; fault = Name; usual = usual }

-- a row of layouts, by their channels
abbrev pub layouts : ConfigPlace → Layout → ConfigRow ℤ Layout
layouts place usual = record { place = place; as_kind = as_integer; in_set = layout_with; fault = Range; usual = usual }

abbrev pub format_row : ConfigRow (List ℕ) Format
format_row = words DeviceFormat format_named S16Le

abbrev pub channels_row : ConfigRow ℤ Layout
channels_row = layouts DeviceChannels Two

abbrev pub rate_row : ConfigRow ℤ ℕ
rate_row = numbers DeviceRate 4000 192000 48000

abbrev pub block_row : ConfigRow ℤ ℕ
block_row = numbers DeviceHwBlock 1 4096 256

abbrev pub blocks_row : ConfigRow ℤ ℕ
blocks_row = numbers DeviceHwBlocks 2 64 4

abbrev pub container_row : ConfigRow (List ℕ) Container
container_row = words DeviceContainer container_named Raw

abbrev pub play_row : ConfigRow ℤ ℕ
play_row = numbers VchansPlay 1 16 4

abbrev pub record_row : ConfigRow ℤ ℕ
record_row = numbers VchansRecord 0 16 4

abbrev pub quality_row : ConfigRow ℤ ℕ
quality_row = numbers VchansQuality 0 4 1

-- the rate of the mix is the device's where it is left out
abbrev pub mix_rate_row : ℕ → ConfigRow ℤ ℕ
mix_rate_row device = numbers VchansRate 4000 192000 device

-- and its layout is the device's
abbrev pub mix_channels_row : Layout → ConfigRow ℤ Layout
mix_channels_row device = layouts VchansChannels device

abbrev pub mapped_row : ConfigRow ℤ ℕ
mapped_row = numbers VchansMapped 0 16 0

-- the least and the greatest number that may stand at a place, where all between them may too
abbrev pub range_at : ConfigPlace → Option (ℕ × ℕ)
range_at DeviceRate = Some (4000, 192000)
range_at VchansRate = Some (4000, 192000)
range_at DeviceHwBlock = Some (1, 4096)
range_at DeviceHwBlocks = Some (2, 64)
range_at VchansPlay = Some (1, 16)
range_at VchansRecord = Some (0, 16)
range_at VchansQuality = Some (0, 4)
range_at VchansMapped = Some (0, 16)
range_at place = None

-- The digest of a device and its filters: the numbers that it has, mixed one after another into one of 64 bits.
use Rattle.std.specs.Prelude.{ℕ, ◌+◌, ◌*◌, ◌%◌, ◌^◌, ℤ, pos, negsuc, List, [], ◌∷◌, ◌++◌, length, map}
use Rattle.std.specs.List.{flat_map}
use Rattle.pcm_format.specs.declared.settings.Settings.{Settings}
use Rattle.pcm_format.specs.Formats.{code_of}
use Rattle.pcm_format.specs.Layouts.{channels_of}
use Rattle.pcm_feeder.specs.Filters.{Filters}
use Rattle.pcm_feeder.specs.declared.section.Section.{Section}
use Rattle.pcm_feeder.specs.declared.table.Table.{Table}
use Rattle.pcm_desk.specs.declared.device.Device.{Device}
use Rattle.pcm_digest.specs.declared.digest.TheConstants.{MULTIPLIER}

-- one number more
abbrev pub digested : ℕ → ℕ → ℕ
digested digest number = (digest * MULTIPLIER + number + 1) % 2 ^ 64

-- and each of a list, the first one first
abbrev pub mixed_all : ℕ → List ℕ → ℕ
mixed_all digest [] = digest
mixed_all digest (number ∷ numbers) = mixed_all (digested digest number) numbers

-- ---- the numbers

-- those of a stream of frames
abbrev pub rate_numbers : Settings → List ℕ
rate_numbers settings = code_of settings.format ∷ channels_of settings.layout ∷ settings.rate ∷ []

abbrev pub device_numbers : Device → List ℕ
device_numbers device = rate_numbers device.settings ++ rate_numbers device.mix
    ++ device.block_frames ∷ device.ring_frames ∷ device.play_slots ∷ device.record_slots ∷ device.map_slots ∷ device.quality ∷ []

-- a coefficient: the even numbers for those from 0 on, the odd ones for those below
abbrev pub signed_number : ℤ → ℕ
signed_number (pos n) = 2 * n
signed_number (negsuc n) = 2 * n + 1

-- a filter, which has as many coefficients as its phases and taps say
abbrev pub table_numbers : Table → List ℕ
table_numbers table = table.src ∷ table.dst ∷ table.phases ∷ table.taps ∷ table.shift ∷ map signed_number table.coefs

abbrev pub section_numbers : Section → List ℕ
section_numbers section = section.shift ∷ map signed_number (section.b0 ∷ section.b1 ∷ section.b2 ∷ section.a1 ∷ section.a2 ∷ [])

-- filters and sections: how many there are of each, and then each of them
abbrev pub filter_numbers : Filters → List ℕ
filter_numbers filters = length filters.list ∷ length filters.sections ∷ flat_map table_numbers filters.list ++ flat_map section_numbers filters.sections

-- ---- the digest

abbrev pub digest_of : Filters → Device → ℕ
digest_of filters device = mixed_all 0 (device_numbers device ++ filter_numbers filters)

-- What holds of each configuration that is read.
use Rattle.std.proofs.Common.{◌≡◌, ℕ, ◌*◌, ◌≤◌, ℤ, true, nat_le, List, length, Option, Some, None, arith, IfOk}
use Rattle.std.proofs.lemmas.Bool.Decides.{nat_tests}
use Rattle.std.specs.List.{list_all}
use Rattle.pcm_format.specs.declared.settings.Settings.{Settings}
use Rattle.pcm_feeder.specs.declared.limits.TheConstants.{FILTERS, SECTIONS}
use Rattle.pcm_feeder.specs.declared.section.Section.{Section}
use Rattle.pcm_feeder.specs.declared.table.Table.{Table as Filter}
use Rattle.pcm_feeder.specs.Filters.{as_filters}
use Rattle.pcm_feeder.specs.Limits.{IsRate, IsSection, IsTable, AreFilters}
use Rattle.pcm_desk.specs.declared.device.Device.{Device}
use Rattle.pcm_desk.specs.declared.limits.TheConstants.{MIX_FRAMES}
use Rattle.pcm_desk.specs.Device.{IsInLimits, mix_frames, mixed_slots, unfiltered}
use Rattle.pcm_oss.specs.declared.event.TheConstants.{SLOTS}
use Rattle.toml.specs.Data.{Members, as_integer}
use Rattle.pcm_config.specs.declared.config.Config.{Config}
use Rattle.pcm_config.specs.declared.fault.ConfigKind.TheVariants as kinds
use Rattle.pcm_config.specs.declared.limits.TheConstants.{CONFIG_BYTES}
use Rattle.pcm_config.specs.declared.place.ConfigPlace.{ConfigPlace}
use Rattle.pcm_config.specs.declared.place.ConfigPlace.TheVariants as places
use Rattle.pcm_config.specs.Judgements.{required}
use Rattle.pcm_config.specs.Lookups.{has_only, table_in, value_at}
use Rattle.pcm_config.specs.Places.{device_places, top_places, vchans_places}
use Rattle.pcm_config.specs.Rows.{block_row, blocks_row, channels_row, container_row, format_row, in_range, mapped_row, mix_channels_row, mix_rate_row, numbers, play_row, quality_row, rate_row, record_row}
use Rattle.pcm_config.specs.Values.{AreSlots, IsHardware, capture_in, hardware_in, in_row, mix_in, settings_in, settled, slots_in}
use Rattle.pcm_config.specs.Files.{files_in}
use Rattle.pcm_config.specs.Lists.{AreFew, has_no_other, tables_at}
use Rattle.pcm_config.specs.Sections.{section_keys, sections_in}
use Rattle.pcm_config.specs.Filters.{filter_keys, filters_in}
use Rattle.pcm_config.proofs.Judging.{IsBetween, after-any, after-kept, must-kept, range-kept, required-kept}
use Rattle.pcm_config.proofs.FilterLimits.{filters-kept}
use Rattle.pcm_config.proofs.SectionLimits.{sections-kept}
use Rattle.pcm_config.specs.Configs.{HasCapture, IsHeld, can_hold, can_mix, config_read, config_with, device_seen, document_of, has_capture, has_slots}

-- a configuration within its limits, which has what it names
pub record IsKept (config : Config) : Type 0 where
  pub limits : IsInLimits (device_seen config)
  pub container : IsHeld config
  pub capture : HasCapture config

-- ---- numbers

row-kept : (place : ConfigPlace) (least most usual : ℕ) (value : Option ℤ) → IsBetween least most usual
    → IfOk (in_row (numbers place least most usual) value) (IsBetween least most)
row-kept place least most usual None fits = fits
row-kept place least most usual (Some value) fits =
    required-kept kinds.Range place (in_range least most value) (IsBetween least most) (range-kept least most value)

number-kept : (place : ConfigPlace) (least most usual : ℕ) (table : Members) → IsBetween least most usual
    → IfOk (settled (numbers place least most usual) table) (IsBetween least most)
number-kept place least most usual table fits =
    after-any (value_at as_integer place table) (in_row (numbers place least most usual)) (IsBetween least most) (λ value. row-kept place least most usual value fits)

-- ---- the device and the channels

settings-kept : (device : Members) → IfOk (settings_in device) (λ settings. IsRate settings.rate)
unfolding settings_in
settings-kept device =
    after-any (settled format_row device) _ _ (λ format.
    after-any (settled channels_row device) _ _ (λ layout.
    after-kept (settled rate_row device) _ (IsBetween 4000 192000) _ (number-kept places.DeviceRate 4000 192000 48000 device (omega arith, omega arith)) (λ rate kept.
    record { least = kept.0; most = kept.1 })))

ring-kept : (block blocks : ℕ) → IsBetween 1 4096 block → IsBetween 2 64 blocks → IsBetween block 262144 (block * blocks)
ring-kept block blocks few many = grind arith

hardware-kept : (device : Members) → IfOk (hardware_in device) IsHardware
unfolding hardware_in
hardware-kept device =
    after-kept (settings_in device) _ (λ settings. IsRate settings.rate) IsHardware (settings-kept device) (λ settings rate.
    after-kept (settled block_row device) _ (IsBetween 1 4096) IsHardware (number-kept places.DeviceHwBlock 1 4096 256 device (omega arith, omega arith)) (λ block few.
    after-kept (settled blocks_row device) _ (IsBetween 2 64) IsHardware (number-kept places.DeviceHwBlocks 2 64 4 device (omega arith, omega arith)) (λ blocks many.
    after-any (settled container_row device) _ IsHardware (λ container.
    let ring = ring-kept block blocks few many in
    record { rate = rate; block = few.0; ring = ring.0; ring_most = ring.1 }))))

mix-kept : (device : Settings) (vchans : Members) → IsRate device.rate → IfOk (mix_in device vchans) (λ mix. IsRate mix.rate)
unfolding mix_in
mix-kept device vchans is =
    after-kept (settled (mix_rate_row device.rate) vchans) _ (IsBetween 4000 192000) _ (number-kept places.VchansRate 4000 192000 device.rate vchans (is.least, is.most)) (λ rate kept.
    after-any (settled (mix_channels_row device.layout) vchans) _ _ (λ layout. record { least = kept.0; most = kept.1 }))

slots-kept : (device : Settings) (vchans : Members) → IsRate device.rate → IfOk (slots_in device vchans) AreSlots
unfolding slots_in
slots-kept device vchans is =
    after-kept (settled play_row vchans) _ (IsBetween 1 16) AreSlots (number-kept places.VchansPlay 1 16 4 vchans (omega arith, omega arith)) (λ play p.
    after-kept (settled record_row vchans) _ (IsBetween 0 16) AreSlots (number-kept places.VchansRecord 0 16 4 vchans (omega arith, omega arith)) (λ recording r.
    after-kept (settled quality_row vchans) _ (IsBetween 0 4) AreSlots (number-kept places.VchansQuality 0 4 1 vchans (omega arith, omega arith)) (λ quality q.
    after-kept (mix_in device vchans) _ (λ mix. IsRate mix.rate) AreSlots (mix-kept device vchans is) (λ mix m.
    after-kept (settled mapped_row vchans) _ (IsBetween 0 16) AreSlots (number-kept places.VchansMapped 0 16 0 vchans (omega arith, omega arith)) (λ mapped a.
    record { play = p.1; recording = r.1; quality = q.1; mix_rate = m; mapped = a.1 })))))

-- ---- filters and sections

-- filters and sections that are within their limits are so together
pub tables-fit : (filters : List Filter) (sections : List Section) → AreFew FILTERS IsTable filters → AreFew SECTIONS IsSection sections
    → AreFilters (as_filters filters sections)
tables-fit filters sections f s = record { count = f.count; each = f.each; few = s.count; sections = s.each }

-- ---- the whole

-- an interrupt that passes the test mixes no more frames than it may
mix-fits : (device : Device) → can_mix device ≡ true → mix_frames (unfiltered device) ≤ MIX_FRAMES
mix-fits device passes = grind (arith, nat_tests)

-- the same of the slots of what is mixed
slots-fit : (device : Device) → has_slots device ≡ true → mixed_slots (unfiltered device) ≤ SLOTS
slots-fit device passes = grind (arith, nat_tests)

-- a configuration that passes each test of the whole
whole-kept : (config : Config)
    → (mix_frames (unfiltered config.device) ≤ MIX_FRAMES → mixed_slots (unfiltered config.device) ≤ SLOTS → IsInLimits (device_seen config))
    → can_hold config.container config.device.settings ≡ true → has_capture config.files config.capture ≡ true
    → can_mix config.device ≡ true → has_slots config.device ≡ true → IsKept config
whole-kept config limits holds has fits room = record {
  limits = limits (mix-fits config.device fits) (slots-fit config.device room);
  container = holds;
  capture = has;
}

-- each configuration that is read keeps its limits, whatever reads it
pub config_read-kept : (bytes : List ℕ) → IfOk (config_read bytes) IsKept
unfolding config_read
config_read-kept bytes =
    must-kept (nat_le (length bytes) CONFIG_BYTES) _ _ _ IsKept (λ _.
    after-any (required kinds.Toml places.Top (document_of bytes)) _ IsKept (λ top.
    must-kept (has_only top_places top) _ _ _ IsKept (λ _.
    after-any (table_in places.Device top) _ IsKept (λ device.
    after-any (table_in places.Vchans top) _ IsKept (λ vchans.
    after-any (table_in places.Files top) _ IsKept (λ table.
    after-any (tables_at places.Tables top) _ IsKept (λ tables.
    after-any (tables_at places.Eq top) _ IsKept (λ eq.
    must-kept (has_only device_places device) _ _ _ IsKept (λ _.
    must-kept (has_only vchans_places vchans) _ _ _ IsKept (λ _.
    must-kept (list_all (has_no_other filter_keys) tables) _ _ _ IsKept (λ _.
    must-kept (list_all (has_no_other section_keys) eq) _ _ _ IsKept (λ _.
    after-kept (hardware_in device) _ IsHardware IsKept (hardware-kept device) (λ hardware h.
    after-any (capture_in device) _ IsKept (λ capture.
    after-kept (slots_in hardware.settings vchans) _ AreSlots IsKept (slots-kept hardware.settings vchans h.rate) (λ slots s.
    after-any (files_in table) _ IsKept (λ files.
    after-kept (filters_in tables) _ (AreFew FILTERS IsTable) IsKept (filters-kept tables) (λ filters f.
    after-kept (sections_in eq) _ (AreFew SECTIONS IsSection) IsKept (sections-kept eq) (λ sections c.
    let config : Config = config_with hardware capture slots files (as_filters filters sections) in
    must-kept (can_hold config.container config.device.settings) _ _ _ IsKept (λ holds.
    must-kept (has_capture config.files config.capture) _ _ _ IsKept (λ has.
    must-kept (can_mix config.device) _ _ _ IsKept (λ fits.
    must-kept (has_slots config.device) _ _ _ IsKept (λ room.
    whole-kept config
    (λ mixed slotted. record { device_is = record { rate = h.rate; mix_rate = s.mix_rate; filters = tables-fit filters sections f c }; block = h.block; ring = h.ring; ring_most = h.ring_most; mix_most = mixed; slots_most = slotted; recorders_most = s.recording; quality = s.quality })
    holds has fits room))))))))))))))))))))))

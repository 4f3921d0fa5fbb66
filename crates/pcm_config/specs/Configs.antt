-- The configuration that a text is, or why it is none.
use Rattle.std.specs.Prelude.{◌≡◌, ℕ, Bool, true, ◌&&◌, ◌==◌, ◌%◌, nat_le, if◌then◌else◌, List, [], length, Option, Some, None, Result, Ok, IfOk}
use Rattle.std.specs.Str.{is_utf8}
use Rattle.std.specs.Cmp.Lexicographic.{slice_cmp}
use Rattle.std.specs.List.{list_all}
use Rattle.std.specs.List.Sorted.{IsStrictlySortedBy}
use Rattle.std.specs.Ordering.{nat_cmp}
use Rattle.pcm_format.specs.declared.settings.Settings.{Settings}
use Rattle.pcm_format.specs.Frames.{frame_bytes}
use Rattle.pcm_feeder.specs.Filters.{Filters, as_filters, no_filters}
use Rattle.pcm_desk.specs.declared.device.Device.{Device}
use Rattle.pcm_desk.specs.declared.limits.TheConstants.{MIX_FRAMES}
use Rattle.pcm_desk.specs.Device.{DeviceSeen, mix_frames, mixed_slots, seen, unfiltered}
use Rattle.pcm_desk.specs.Usual.{usual_settings}
use Rattle.toml.specs.Data.{Members}
use Rattle.toml.specs.Parse.{parse_document}
use Rattle.pcm_config.specs.declared.config.Config.{Config}
use Rattle.pcm_config.specs.declared.config.Container.{Container}
use Rattle.pcm_config.specs.declared.config.Container.TheVariants.{Raw, Wav}
use Rattle.pcm_config.specs.declared.config.FilePath.{FilePath}
use Rattle.pcm_config.specs.declared.fault.ConfigFault.{ConfigFault}
use Rattle.pcm_config.specs.declared.fault.ConfigKind.TheVariants as kinds
use Rattle.pcm_config.specs.declared.fault.ConfigRefusal.{ConfigRefusal}
use Rattle.pcm_config.specs.declared.hardware.Hardware.{Hardware}
use Rattle.pcm_config.specs.declared.limits.TheConstants.{CONFIG_BYTES}
use Rattle.pcm_config.specs.declared.place.ConfigPlace.TheVariants as places
use Rattle.pcm_config.specs.declared.slots.Slots.{Slots}
use Rattle.pcm_config.specs.Answers.{Reads}
use Rattle.pcm_config.specs.Judgements.{◌>>=◌, ◌>>◌, must_hold, required}
use Rattle.pcm_config.specs.Places.{top_places, device_places, vchans_places}
use Rattle.pcm_config.specs.Lookups.{has_only, table_in}
use Rattle.pcm_config.specs.Values.{hardware_in, capture_in, slots_in}
use Rattle.pcm_oss.specs.declared.event.TheConstants.{SLOTS}
use Rattle.pcm_wave.specs.Formats.{is_wave_format}
use Rattle.pcm_config.specs.Files.{files_in, is_named, names_of}
use Rattle.pcm_config.specs.Lists.{has_no_other, tables_at}
use Rattle.pcm_config.specs.Filters.{filter_keys, filters_in}
use Rattle.pcm_config.specs.Sections.{section_keys, sections_in}

-- what is settled of a run without a configuration
abbrev pub usual_config : Config
usual_config = record {
  device = record {
    settings = usual_settings;
    mix = usual_settings;
    block_frames = 256;
    ring_frames = 1024;
    play_slots = 4;
    record_slots = 4;
    map_slots = 0;
    quality = 1;
  };
  container = Raw;
  capture = None;
  files = [];
  tables = no_filters;
}

-- whether a file of this form can have frames with these settings: a wave has an even number of bytes a frame
abbrev pub can_hold : Container → Settings → Bool
can_hold Raw settings = true
can_hold Wav settings = is_wave_format settings.format && frame_bytes settings % 2 == 0

-- whether the file that is recorded from is there, if there is one
abbrev pub has_capture : List FilePath → Option (List ℕ) → Bool
has_capture files None = true
has_capture files (Some name) = is_named files name

-- whether an interrupt mixes no more frames than it may
abbrev pub can_mix : Device → Bool
can_mix device = nat_le (mix_frames (unfiltered device)) MIX_FRAMES

-- whether the mix has a slot for each channel that plays, and after those for each with a mapped area
abbrev pub has_slots : Device → Bool
has_slots device = nat_le (mixed_slots (unfiltered device)) SLOTS

-- all that is settled, put together
abbrev pub config_with : Hardware → Option (List ℕ) → Slots → List FilePath → Filters → Config
config_with hardware capture slots files filters = record {
  device = record {
    settings = hardware.settings;
    mix = slots.mix;
    block_frames = hardware.block_frames;
    ring_frames = hardware.ring_frames;
    play_slots = slots.play;
    record_slots = slots.recording;
    map_slots = slots.mapped;
    quality = slots.quality;
  };
  container = hardware.container;
  capture = capture;
  files = files;
  tables = filters;
}

-- the document that bytes are, which must be UTF-8
abbrev pub document_of : List ℕ → Option Members
document_of bytes = if is_utf8 bytes then parse_document bytes else None

-- The configuration that bytes are. Each line is a judgement, in the order in which they are judged: the first that refuses is the result.
unfoldable pub config_read : List ℕ → Result Config ConfigRefusal
config_read bytes = do
  must_hold (nat_le (length bytes) CONFIG_BYTES) kinds.Long places.Top
  top ← required kinds.Toml places.Top (document_of bytes)
  must_hold (has_only top_places top) kinds.Key places.Top
  device ← table_in places.Device top
  vchans ← table_in places.Vchans top
  table ← table_in places.Files top
  tables ← tables_at places.Tables top
  eq ← tables_at places.Eq top
  must_hold (has_only device_places device) kinds.Key places.Device
  must_hold (has_only vchans_places vchans) kinds.Key places.Vchans
  must_hold (list_all (has_no_other filter_keys) tables) kinds.Key places.Tables
  must_hold (list_all (has_no_other section_keys) eq) kinds.Key places.Eq
  hardware ← hardware_in device
  capture ← capture_in device
  slots ← slots_in hardware.settings vchans
  files ← files_in table
  filters ← filters_in tables
  sections ← sections_in eq
  let config = config_with hardware capture slots files (as_filters filters sections)
  must_hold (can_hold config.container config.device.settings) kinds.Container places.DeviceContainer
  must_hold (has_capture config.files config.capture) kinds.Capture places.DeviceCapture
  must_hold (can_mix config.device) kinds.Range places.VchansRate
  must_hold (has_slots config.device) kinds.Range places.VchansMapped
  Ok config

-- the device of a run with its filters and sections, as others see it
abbrev pub device_seen : Config → DeviceSeen
device_seen config = seen config.tables config.device

-- a wave has frames that it can hold
abbrev pub IsHeld : Config → Type 0
IsHeld config = can_hold config.container config.device.settings ≡ true

-- the file that is recorded from is among the files
abbrev pub HasCapture : Config → Type 0
HasCapture config = has_capture config.files config.capture ≡ true

-- the files are in the byte order of their names, and no two have one name
abbrev pub AreInOrder : List FilePath → Type 0
AreInOrder files = IsStrictlySortedBy (slice_cmp nat_cmp) (names_of files)

-- what was judged of a table of files; those that are read are in their order
pub record ReadsFiles (result : Result (List FilePath) ConfigFault) (told : Result (List FilePath) ConfigRefusal) : Type 0 where
  pub read : Reads result told
  pub order : IfOk result AreInOrder

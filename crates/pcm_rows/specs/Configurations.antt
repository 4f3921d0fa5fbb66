-- Configurations: one that settles all, and parts of others, with what they settle.
use Prim.Native.String.{String}
use Rattle.std.specs.Prelude.{ℕ, ◌*◌, pos, negsuc, List, [], ◌∷◌, ◌++◌, codes, Some, Result}
use Rattle.pcm_format.specs.declared.format.Format.TheVariants.{S24Le}
use Rattle.pcm_format.specs.declared.layout.Layout.TheVariants.{One, Six}
use Rattle.pcm_feeder.specs.declared.section.Section.{Section}
use Rattle.pcm_feeder.specs.declared.table.Table.{Table}
use Rattle.pcm_feeder.specs.Filters.{as_filters, no_filters}
use Rattle.pcm_desk.specs.Usual.{usual_settings}
use Rattle.pcm_config.specs.declared.config.Config.{Config}
use Rattle.pcm_config.specs.declared.config.Container.TheVariants.{Wav}
use Rattle.pcm_config.specs.declared.config.FilePath.{FilePath}
use Rattle.pcm_config.specs.declared.fault.ConfigRefusal.{ConfigRefusal}
use Rattle.pcm_config.specs.Configs.{config_read, usual_config}
use Rattle.pcm_rows.specs.Calls.{joined}

-- what a text is read as
abbrev pub config_in : String → Result Config ConfigRefusal
config_in text = config_read (codes text)

-- all that may be settled
abbrev pub whole_text : List ℕ
whole_text = joined (
    codes "[device]"
    ∷ codes "format = \"s24le\""
    ∷ codes "channels = 6"
    ∷ codes "rate = 44100"
    ∷ codes "hw_block = 128"
    ∷ codes "hw_blocks = 2"
    ∷ codes "container = \"wav\""
    ∷ codes "capture = \"room\""
    ∷ codes "[vchans]"
    ∷ codes "play = 12"
    ∷ codes "record = 0"
    ∷ codes "quality = 4"
    ∷ codes "rate = 22050"
    ∷ codes "channels = 1"
    ∷ codes "mapped = 4"
    ∷ codes "[files]"
    ∷ codes "room = \"in.wav\""
    ∷ codes "a_1 = \"/\""
    ∷ [])

-- its files, in the order of their names
abbrev pub whole_files : List FilePath
whole_files =
    record { name = codes "a_1"; path = codes "/" }
    ∷ record { name = codes "room"; path = codes "in.wav" }
    ∷ []

-- what it settles
abbrev pub whole_config : Config
whole_config = record {
  device = record {
    settings = record { format = S24Le; layout = Six; rate = 44100 };
    mix = record { format = S24Le; layout = One; rate = 22050 };
    block_frames = 128;
    ring_frames = 256;
    play_slots = 12;
    record_slots = 0;
    map_slots = 4;
    quality = 4;
  };
  tables = no_filters;
  container = Wav;
  capture = Some (codes "room");
  files = whole_files;
}

-- ---- the mix

-- a ring of `blocks` blocks of 4096 frames, and a rate of the mix
abbrev pub ring_text : String → String → List ℕ
ring_text blocks rate =
    codes "[device]\nhw_block = 4096\nhw_blocks = " ++ codes blocks
    ++ codes "\n[vchans]\nrate = " ++ codes rate ++ 10 ∷ []

-- what is usual, but for these
abbrev pub config_of_ring : ℕ → ℕ → Config
config_of_ring blocks rate = record usual_config {
  device = record usual_config.device {
    mix = record usual_settings { rate = rate };
    block_frames = 4096;
    ring_frames = 4096 * blocks;
  };
}

-- ---- filters

-- a filter without rows
abbrev pub rowless_text : List ℕ
rowless_text = codes "[[tables]]\nshift = 1\n"

-- a filter of these keys and rows
abbrev pub filter_keyed : String → String → List ℕ
filter_keyed keys rows = codes "[[tables]]\n" ++ codes keys ++ codes "shift = 1\nrows = " ++ codes rows ++ 10 ∷ []

-- a filter of these rows for any rates
abbrev pub filter_of : String → List ℕ
filter_of rows = filter_keyed "" rows

abbrev pub half_way_text : List ℕ
half_way_text = filter_of "[[2, 0], [1, 1]]"

abbrev pub widest_text : List ℕ
widest_text = codes "[[tables]]\nrows = [[-16777216, 16777216]]\nshift = 30\nsrc = 4000\ndst = 192000\n"

-- a filter of two rows for any rates
abbrev pub half_way : Table
half_way = record { src = 0; dst = 0; phases = 2; taps = 2; shift = 1; coefs = pos 2 ∷ pos 0 ∷ pos 1 ∷ pos 1 ∷ [] }

-- a filter between the furthest rates, with the greatest shift and coefficients
abbrev pub widest : Table
widest = record { src = 4000; dst = 192000; phases = 1; taps = 2; shift = 30; coefs = negsuc 16777215 ∷ pos 16777216 ∷ [] }

-- what is usual, but for the filters
abbrev pub config_of_filters : List Table → Config
config_of_filters list = record usual_config { tables = as_filters list [] }

-- ---- sections

-- a section of these keys and four between them
abbrev pub section_keyed : String → String → List ℕ
section_keyed first last = codes "[[eq]]\n" ++ codes first ++ codes "b0 = 1\nb1 = 0\nb2 = 536870912\na1 = -2\n" ++ codes last

-- a section with the greatest shift and coefficients
abbrev pub furthest_text : List ℕ
furthest_text = section_keyed "shift = 28\n" "a2 = -536870912\n"

abbrev pub furthest : Section
furthest = record { shift = 28; b0 = pos 1; b1 = pos 0; b2 = pos 536870912; a1 = negsuc 1; a2 = negsuc 536870911 }

-- a section without a key
abbrev pub keyless_text : List ℕ
keyless_text = codes "[[eq]]\n"

-- what is usual, but for the sections
abbrev pub config_of_sections : List Section → Config
config_of_sections sections = record usual_config { tables = as_filters [] sections }

-- ---- waves

-- a device whose file is a wave, with these keys
abbrev pub wave_with_keys : String → List ℕ
wave_with_keys keys = codes "[device]\n" ++ codes keys ++ codes "container = \"wav\"\n"

-- a wave without a filter's rows
abbrev pub wave_and_rowless_text : List ℕ
wave_and_rowless_text = codes "[device]\ncontainer = \"wav\"\nformat = \"s16be\"\n" ++ rowless_text

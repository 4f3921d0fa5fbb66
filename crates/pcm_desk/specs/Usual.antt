-- The settings that stand where nobody chose others.
use Rattle.pcm_format.specs.declared.settings.Settings.{Settings}
use Rattle.pcm_format.specs.declared.format.Format.TheVariants.{S16Le}
use Rattle.pcm_format.specs.declared.layout.Layout.TheVariants.{Two}
use Rattle.pcm_desk.specs.Device.{DeviceSeen}
use Rattle.pcm_feeder.specs.Filters.{no_filters}

-- 16 bits, stereo, 48 kHz
abbrev pub usual_settings : Settings
usual_settings = record { format = S16Le; layout = Two; rate = 48000 }

-- a ring of four blocks of 256 frames, four channels that play and four that record, none with a mapped area, converters that draw lines, and no filter
abbrev pub usual_device : DeviceSeen
usual_device = record {
  device_settings = usual_settings;
  mix_settings = usual_settings;
  play_slots = 4;
  record_slots = 4;
  map_slots = 0;
  ring_frames = 1024;
  block_frames = 256;
  device_quality = 1;
  device_filters = no_filters;
}

-- What a conversion appends, and what it needs for that.
use Rattle.std.specs.Prelude.{◌≡◌, ◌*◌, ◌++◌, ℕ, IsTrue, List, length, replicate}
use Rattle.pcm_outside.specs.Files.{FilesSeen}
use Rattle.pcm_format.specs.declared.settings.Settings.{Settings}
use Rattle.pcm_format.specs.Frames.{frame_bytes}
use Rattle.pcm_wave.specs.DataFiles.{DataFileSeen}
use Rattle.pcm_wave.specs.Headers.{IsWaveFormat, padding}
use Rattle.pcm_feeder.specs.declared.kind.Kind.{Kind}
use Rattle.pcm_feeder.specs.declared.rack.RacksOf.{RacksOf}
use Rattle.pcm_feeder.specs.Limits.{IsRate}
use Rattle.pcm_feeder.specs.Racks.{AreRacks, list_of}
use Rattle.pcm_feeder.specs.Kept.{Kept}
use Rattle.pcm_convert.specs.declared.conversion.ConversionOf.{ConversionOf}
use Rattle.pcm_convert.specs.declared.conversion.TheConstants.{BLOCK}
use Rattle.pcm_convert.specs.Conversions.{converted_body, converted_frames}
use Rattle.pcm_convert.specs.Stands.{ConversionStands, source_in, target_in}
use Rattle.pcm_inputs.specs.Parts.{HasRoom, conversion_to}

-- there are racks that convert one rate to another, and both are within the limits
pub record CanConvertRates {B : Type 0} (kind : B → Kind) (racks : RacksOf B) (source target : Settings) : Type 0 where
  pub kinds : AreRacks kind (list_of racks)
  pub source_rate : IsRate source.rate
  pub target_rate : IsRate target.rate

-- there are racks, and what a wave is at these settings can be written as a wave
pub record CanConvert {B : Type 0} (kind : B → Kind) (racks : RacksOf B) (source : DataFileSeen) (target : Settings) : Type 0 where
  pub kinds : AreRacks kind (list_of racks)
  pub rate : IsRate target.rate
  pub format : IsWaveFormat target.format
  pub size : HasRoom (conversion_to source target)

-- a file that stands created, a conversion that gave nothing of a body yet, the count of all frames that it gives, and a buffer
-- for one block of them
pub record CanAppend {B : Type 0} (kept : B → Kept) (files : FilesSeen) (conversion : ConversionOf B) (body : List ℕ) (frames : ℕ)
    (block : List ℕ) : Type 0 where
  pub created : IsTrue files.stands
  pub stands : ConversionStands kept conversion body 0
  pub count : frames ≡ converted_frames (source_in conversion) (target_in conversion) body
  pub room : length block ≡ BLOCK * frame_bytes (target_in conversion)

-- the body of a wave that is converted, with its padding
abbrev pub wave_body : Settings → Settings → List ℕ → List ℕ
wave_body source target body =
    converted_body source target body ++ replicate (padding (converted_frames source target body * frame_bytes target)) 0

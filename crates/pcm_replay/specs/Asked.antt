-- What is needed to do what is asked for: racks of the right kinds, and what was judged before.
use Rattle.std.specs.Prelude.{◌≤◌, length}
use Rattle.pcm_format.specs.declared.settings.Settings.{Settings}
use Rattle.pcm_wave.specs.Headers.{IsWaveFormat}
use Rattle.pcm_wave.specs.Pools.{IsCaptureIn}
use Rattle.pcm_feeder.specs.declared.kind.Kind.{Kind}
use Rattle.pcm_feeder.specs.declared.rack.RacksOf.{RacksOf}
use Rattle.pcm_feeder.specs.Limits.{IsRate}
use Rattle.pcm_feeder.specs.Racks.{AreRacks, list_of}
use Rattle.pcm_desk.specs.declared.limits.TheConstants.{DEVICE_BYTES, EVENTS}
use Rattle.pcm_desk.specs.Device.{IsInLimits}
use Rattle.pcm_config.specs.Configs.{IsHeld, device_seen}
use Rattle.pcm_script.specs.Lines.{AllFit, bytes_taken}
use Rattle.pcm_verdict.specs.Outputs.{inputs_pool}
use Rattle.pcm_inputs.specs.declared.inputs.Inputs.{Inputs}
use Rattle.pcm_inputs.specs.declared.words.Command.{Command}
use Rattle.pcm_inputs.specs.Commands.{AreLimits}
use Rattle.pcm_inputs.specs.Parts.{inputs_seen}

-- a command can be done
pub record CanDo {B : Type 0} (kind : B → Kind) (racks : RacksOf B) (command : Command) : Type 0 where
  pub kinds : AreRacks kind (list_of racks)
  pub limits : AreLimits command

-- a wave can be converted to these settings
pub record CanConvertTo {B : Type 0} (kind : B → Kind) (racks : RacksOf B) (target : Settings) : Type 0 where
  pub kinds : AreRacks kind (list_of racks)
  pub rate : IsRate target.rate
  pub format : IsWaveFormat target.format

-- a script can be run
pub record CanRunScript {B : Type 0} (kind : B → Kind) (racks : RacksOf B) (inputs : Inputs) : Type 0 where
  pub kinds : AreRacks kind (list_of racks)
  pub limits : IsInLimits (device_seen inputs.config)
  pub container : IsHeld inputs.config
  pub fits : AllFit (device_seen inputs.config) inputs.files inputs.script
  pub captures : IsCaptureIn inputs.config.device.settings.layout (inputs_pool (inputs_seen inputs))
  pub count : length inputs.script.events ≤ EVENTS
  pub frames : bytes_taken (device_seen inputs.config) inputs.script ≤ DEVICE_BYTES

-- What holds of a run that is accepted: its device is within the limits, and its events fit that.
use Rattle.std.proofs.Common.{◌≡◌, ℕ, List, [], Option, None, Some, Result, Ok, Err, IfOk, All, arith, subst}
use Rattle.std.proofs.lemmas.List.Elements.{All-nil}
use Rattle.pcm_wave.specs.DataFiles.{DataFileSeen}
use Rattle.pcm_desk.specs.Device.{IsInLimits, unfiltered}
use Rattle.pcm_desk.specs.Events.{Fits}
use Rattle.pcm_config.specs.declared.config.Config.{Config}
use Rattle.pcm_config.specs.declared.fault.ConfigRefusal.{ConfigRefusal}
use Rattle.pcm_config.specs.Configs.{config_read, device_seen, usual_config}
use Rattle.pcm_config.proofs.Kept.{IsKept, config_read-kept}
use Rattle.pcm_script.specs.declared.fault.Refusal.{Refusal}
use Rattle.pcm_script.specs.declared.script.Script.{Script}
use Rattle.pcm_script.specs.Lines.{AllFit, script_read}
use Rattle.pcm_script.proofs.Fitting.{AllFit-captured, AllFit-filtered}
use Rattle.pcm_script.proofs.Kept.{IsSound, script_read-sound}
use Rattle.pcm_verdict.specs.Captures.{capture_place}
use Rattle.pcm_verdict.specs.Commands.{Command, RunScript, CheckScript, ConvertWave, SoakRun, command_of}
use Rattle.pcm_verdict.specs.Faults.{Fault}
use Rattle.pcm_verdict.specs.Judging.{◌>>=◌, Contents, Judged, came_after, given, judge, or_missing}
use Rattle.pcm_verdict.specs.Outputs.{inputs_pool}
use Rattle.pcm_verdict.specs.Verdict.{Accepted, Runs, Checks, Converts, Soaks, Inputs, command_judged, config_judged, conversion_judged, files_behind, if_command, inputs_judged, inputs_under, or_bad_config, or_bad_script, script_judged, verdict}

-- the device of a run is within the limits, and its events fit that
pub record IsPlayable (inputs : Inputs) : Type 0 where
  pub limits : IsInLimits (device_seen inputs.config)
  pub fits : All (Fits (device_seen inputs.config) (inputs_pool inputs)) inputs.script.events

-- what is accepted for a run is playable
abbrev IsPlayableRun : Accepted → Type 0
IsPlayableRun (Runs name inputs) = IsPlayable inputs
IsPlayableRun (Checks inputs) = Unit {0}
IsPlayableRun (Converts name conversion) = Unit {0}
IsPlayableRun (Soaks n) = Unit {0}

-- the next judgement, after one that gave a value
after-value : {A B : Type 0} (r : Result A Fault) (next : A → Judged B) (P : A → Type 0) (Q : B → Type 0) → IfOk r P → ((value : A) → P value → IfOk (next value).came Q) → IfOk (came_after r next) Q
after-value (Ok value) next P Q here there = there value here
after-value (Err fault) next P Q here there = tt

-- or after any
after-all : {A B : Type 0} (r : Result A Fault) (next : A → Judged B) (Q : B → Type 0) → ((value : A) → IfOk (next value).came Q) → IfOk (came_after r next) Q
after-all (Ok value) next Q there = there value
after-all (Err fault) next Q there = tt

-- ---- the configuration

config-within : (r : Result Config ConfigRefusal) → IfOk r IsKept → IfOk (or_bad_config r) (λ config. IsInLimits (device_seen config))
config-within (Ok config) kept = kept.limits
config-within (Err refusal) kept = tt

usual-within : IsInLimits (device_seen usual_config)
usual-within = record {
  device_is = record { rate = record { least = omega arith; most = omega arith }; mix_rate = record { least = omega arith; most = omega arith }; filters = record { count = omega arith; each = All-nil _; few = omega arith; sections = All-nil _ } };
  block = omega arith;
  ring = omega arith;
  ring_most = omega arith;
  mix_most = omega arith;
  slots_most = omega arith;
  recorders_most = omega arith;
  quality = omega arith;
}

config_judged-within : (content : Contents) (config : Option (List ℕ)) → IfOk (config_judged content config).came (λ settled. IsInLimits (device_seen settled))
config_judged-within content None = usual-within
config_judged-within content (Some name) =
    after-all (or_missing name (content name)) (λ text. judge (or_bad_config (config_read text))) (λ settled. IsInLimits (device_seen settled))
    (λ text. config-within (config_read text) (config_read-kept text))

-- ---- the script

script-fits : (config : Config) (files : List DataFileSeen) (r : Result Script Refusal) → IfOk r (IsSound (unfiltered config.device) files) → IfOk (or_bad_script r) (AllFit (device_seen config) files)
script-fits config files (Ok script) sound = AllFit-filtered config.tables config.device files script sound.fits
script-fits config files (Err refusal) sound = tt

script_judged-fits : (content : Contents) (config : Config) (files : List DataFileSeen) (name : List ℕ) → IsInLimits (device_seen config) → IfOk (script_judged content config files name).came (AllFit (device_seen config) files)
script_judged-fits content config files name limits =
    after-all (or_missing name (content name)) (λ text. judge (or_bad_script (script_read (unfiltered config.device) files text))) (AllFit (device_seen config) files)
    (λ text. script-fits config files (script_read (unfiltered config.device) files text) (script_read-sound (unfiltered config.device) files text (record { some = limits.block; room = limits.ring })))

-- ---- the run

inputs_under-playable : (content : Contents) (config : Config) (name : List ℕ) → IsInLimits (device_seen config) → IfOk (inputs_under content config name).came IsPlayable
inputs_under-playable content config name limits =
    after-all (files_behind content config [] config.files).came (λ files. script_judged content config files name >>= (λ script. given (record { config = config; files = files; script = script }))) IsPlayable
    (λ files. after-value {B = Inputs} (script_judged content config files name).came (λ script. given (record { config = config; files = files; script = script })) (AllFit (device_seen config) files) IsPlayable
    (script_judged-fits content config files name limits)
    (λ script fit. record { limits = limits; fits = AllFit-captured (device_seen config) files script (capture_place config.capture files) fit }))

inputs_judged-playable : (content : Contents) (name : List ℕ) (config : Option (List ℕ)) → IfOk (inputs_judged content name config).came IsPlayable
inputs_judged-playable content name config =
    after-value (config_judged content config).came (λ settled. inputs_under content settled name) (λ settled. IsInLimits (device_seen settled)) IsPlayable
    (config_judged-within content config) (λ settled limits. inputs_under-playable content settled name limits)

command-playable : (content : Contents) (command : Command) → IfOk (command_judged content command).came IsPlayableRun
command-playable content (RunScript script out config) =
    after-value {B = Accepted} (inputs_judged content script config).came (λ inputs. given (Runs out inputs)) IsPlayable IsPlayableRun (inputs_judged-playable content script config) (λ inputs playable. playable)
command-playable content (CheckScript script config) =
    after-all {B = Accepted} (inputs_judged content script config).came (λ inputs. given (Checks inputs)) IsPlayableRun (λ inputs. tt)
command-playable content (ConvertWave input out target) =
    after-all {B = Accepted} (conversion_judged content input target).came (λ conversion. given (Converts out conversion)) IsPlayableRun (λ conversion. tt)
command-playable content (SoakRun n) = tt

words-playable : (content : Contents) (command : Option Command) → IfOk (if_command content command).came IsPlayableRun
words-playable content None = tt
words-playable content (Some command) = command-playable content command

-- what a call is accepted to run is playable
pub accepted-playable : (words : List (List ℕ)) (content : Contents) (name : List ℕ) (inputs : Inputs) → verdict words content ≡ Ok (Runs name inputs) → IsPlayable inputs
accepted-playable words content name inputs accepts =
    subst (λ (r : Result Accepted Fault). IfOk r IsPlayableRun) accepts (words-playable content (command_of words))

-- What the status of a call says of its ending, and what the verdict says of the status.
use Rattle.std.proofs.Common.{◌≡◌, ℕ, nat_eq, Bool, true, false, if◌then◌else◌, List, [], ◌∷◌, ◌++◌, Option, None, Some, Result, Ok, Err, IsTrue, refl, sym, ap, ◌∙◌, subst, inl, inr, length, ◌-◌, ◌*◌, nat_lt, ◌&&◌, not}
use Rattle.pcm_format.specs.declared.settings.Settings.{Settings}
use Rattle.pcm_outside.specs.Files.{FilesSeen}
use Rattle.pcm_wave.specs.DataFiles.{DataFileSeen}
use Rattle.pcm_wave.specs.Waves.{wave_of}
use Rattle.pcm_format.specs.Frames.{frame_bytes}
use Rattle.pcm_wave.specs.declared.pool.TheConstants.{DATA_BYTES}
use Rattle.pcm_wave.specs.declared.written.TheConstants.{BODY_BYTES}
use Rattle.pcm_wave.specs.declared.wave.Wave.{Wave}
use Rattle.pcm_config.specs.Configs.{config_read}
use Rattle.pcm_desk.specs.Device.{unfiltered}
use Rattle.pcm_script.specs.Lines.{script_read}
use Rattle.pcm_wave.specs.declared.wave.WaveFault.{WaveFault}
use Rattle.pcm_config.specs.declared.config.Config.{Config}
use Rattle.pcm_config.specs.declared.config.FilePath.{FilePath}
use Rattle.pcm_config.specs.declared.fault.ConfigRefusal.{ConfigRefusal}
use Rattle.pcm_script.specs.declared.fault.Refusal.{Refusal}
use Rattle.pcm_script.specs.declared.script.Script.{Script}
use Rattle.pcm_verdict.specs.Commands.{Command, RunScript, CheckScript, ConvertWave, SoakRun}
use Rattle.pcm_verdict.specs.Faults as faults
use Rattle.pcm_verdict.specs.Faults.{Fault}
use Rattle.pcm_verdict.specs.Judging.{◌>>=◌, Contents, Judged, came_after, given, judge, or_missing}
use Rattle.pcm_verdict.specs.Outputs.{Written}
use Rattle.pcm_verdict.specs.Verdict.{Accepted, Runs, Checks, Converts, Conversion, Inputs, bytes_held, command_judged, config_judged, conversion_from, conversion_judged, conversion_of, conversion_within, file_behind, file_judged, file_of, files_behind, frames_converted, has_shape, if_command, inputs_judged, inputs_under, is_capture, or_bad_config, or_bad_script, script_judged}
use Rattle.pcm_inputs.specs.declared.ending.Ending.{Ending}
use Rattle.pcm_inputs.specs.declared.ending.Ending.TheVariants.{Usage, CannotRead, BadConfig, BadScript, BadWave, CannotWrite, NoMemory}
use Rattle.pcm_replay.specs.Endings.{EndsCall}
use Rattle.pcm_inputs.specs.Faults.{ending_of, ending_status}
use Rattle.pcm_replay.specs.Calls.{Call}
use Rattle.pcm_replay.specs.Outcomes.{MayEnd, MayRefuse, RefusesFile, Spells, verdict_of, verdict_on}
use Rattle.pcm_inputs.specs.Outside.{NoneRose, Outside}
use Rattle.pcm_convert_command.specs.Written.{WritesFile}

-- ---- one status for each ending

abbrev from_status : ℕ → Ending
from_status status =
    if nat_eq status 2 then Usage
    else if nat_eq status 3 then CannotRead
    else if nat_eq status 4 then BadConfig
    else if nat_eq status 5 then BadScript
    else if nat_eq status 6 then BadWave
    else if nat_eq status 7 then CannotWrite
    else NoMemory

from-status : (ending : Ending) → from_status (ending_status ending) ≡ ending
from-status Usage = refl
from-status CannotRead = refl
from-status BadConfig = refl
from-status BadScript = refl
from-status BadWave = refl
from-status CannotWrite = refl
from-status NoMemory = refl

-- an ending is the one that its status names
pub ended-as : (call : Call) (ending one : Ending) (status : ℕ) → status ≡ ending_status ending → status ≡ ending_status one
    → EndsCall call ending → EndsCall call one
ended-as call ending one status is named ends =
    subst (λ (e : Ending). EndsCall call e) (sym (from-status ending) ∙ ap from_status (sym is ∙ named) ∙ from-status one) ends

-- ---- where all was written, no failure was counted

pub none-rose : (file : Option Written) (before after : Outside) → WritesFile file before.files after.files → after.sink.faults ≡ before.sink.faults → NoneRose before after
none-rose None before after written puts = record { reads = written.kept.read_faults; writes = written.only.write_faults; puts = puts }
none-rose (Some file) before after written puts = record { reads = written.read_faults; writes = written.write_faults; puts = puts }

-- ---- a command's verdict is never that its words match no form

-- a fault of a file
abbrev IsOfFiles : Fault → Type 0
IsOfFiles faults.Usage = ⊥
IsOfFiles (faults.Missing name) = Unit {0}
IsOfFiles (faults.BadConfig refusal) = Unit {0}
IsOfFiles (faults.BadWave name kind) = Unit {0}
IsOfFiles (faults.BadScript refusal) = Unit {0}

-- a value, or such a fault
abbrev ComesOfFiles : {A : Type 0} → Result A Fault → Type 0
ComesOfFiles (Ok value) = Unit {0}
ComesOfFiles (Err fault) = IsOfFiles fault

of-next : {A B : Type 0} (r : Result A Fault) (next : A → Judged B) → ComesOfFiles r → ((value : A) → ComesOfFiles (next value).came) → ComesOfFiles (came_after r next)
of-next (Ok value) next here there = there value
of-next (Err fault) next here there = here

of-either : {A : Type 0} (b : Bool) (one other : Result A Fault) → ComesOfFiles one → ComesOfFiles other → ComesOfFiles (if b then one else other)
of-either true one other here there = here
of-either false one other here there = there

of-missing : (name : List ℕ) (content : Option (List ℕ)) → ComesOfFiles (or_missing name content)
of-missing name None = tt
of-missing name (Some bytes) = tt

of-bad_config : (r : Result Config ConfigRefusal) → ComesOfFiles (or_bad_config r)
of-bad_config (Ok config) = tt
of-bad_config (Err refusal) = tt

of-bad_script : (r : Result Script Refusal) → ComesOfFiles (or_bad_script r)
of-bad_script (Ok script) = tt
of-bad_script (Err refusal) = tt

of-file : (config : Config) (file : FilePath) (bytes : List ℕ) (r : Result Wave WaveFault) → ComesOfFiles (file_of config file bytes r)
of-file config file bytes (Ok wave) = of-either {A = DataFileSeen} (is_capture config.capture file.name && not (has_shape config.device.settings wave))
    (Err (faults.BadWave file.path faults.Shape)) (Ok (record { name = file.name; bytes = bytes; wave = wave })) tt tt
of-file config file bytes (Err fault) = tt

of-file_behind : (config : Config) (before : List DataFileSeen) (file : FilePath) (bytes : List ℕ) → ComesOfFiles (file_behind config before file bytes)
of-file_behind config before file bytes = of-either {A = DataFileSeen} (nat_lt (DATA_BYTES - bytes_held before) (length bytes))
    (Err (faults.BadWave file.path faults.Long)) (file_of config file bytes (wave_of bytes)) tt (of-file config file bytes (wave_of bytes))

of-within : (name : List ℕ) (conversion : Conversion) → ComesOfFiles (conversion_within name conversion)
of-within name conversion = of-either {A = Conversion} (nat_lt BODY_BYTES (frames_converted conversion * frame_bytes conversion.target))
    (Err (faults.BadWave name faults.Long)) (Ok conversion) tt tt

of-wave : (name : List ℕ) (target : Settings) (bytes : List ℕ) (r : Result Wave WaveFault) → ComesOfFiles (conversion_from name target bytes r)
of-wave name target bytes (Ok wave) = of-within name (record { source = record { name = name; bytes = bytes; wave = wave }; target = target })
of-wave name target bytes (Err fault) = tt

of-conversion : (name : List ℕ) (target : Settings) (bytes : List ℕ) → ComesOfFiles (conversion_of name target bytes)
of-conversion name target bytes = of-either {A = Conversion} (nat_lt DATA_BYTES (length bytes))
    (Err (faults.BadWave name faults.Long)) (conversion_from name target bytes (wave_of bytes)) tt (of-wave name target bytes (wave_of bytes))

-- a file that is read, and then judged
of-read : {A : Type 0} (content : Contents) (name : List ℕ) (judged : List ℕ → Result A Fault) → ((bytes : List ℕ) → ComesOfFiles (judged bytes))
    → ComesOfFiles (came_after (or_missing name (content name)) (λ bytes. judge (judged bytes)))
of-read content name judged each = of-next (or_missing name (content name)) (λ bytes. judge (judged bytes)) (of-missing name (content name)) each

of-config : (content : Contents) (config : Option (List ℕ)) → ComesOfFiles (config_judged content config).came
of-config content None = tt
of-config content (Some name) = of-read content name (λ text. or_bad_config (config_read text)) (λ text. of-bad_config (config_read text))

of-files : (content : Contents) (config : Config) (before : List DataFileSeen) (files : List FilePath) → ComesOfFiles (files_behind content config before files).came
of-files content config before [] = tt
of-files content config before (file ∷ files) =
    of-next (file_judged content config before file).came (λ next. files_behind content config (before ++ next ∷ []) files)
    (of-read content file.path (file_behind config before file) (of-file_behind config before file))
    (λ next. of-files content config (before ++ next ∷ []) files)

of-script : (content : Contents) (config : Config) (files : List DataFileSeen) (name : List ℕ) → ComesOfFiles (script_judged content config files name).came
of-script content config files name = of-read content name (λ text. or_bad_script (script_read (unfiltered config.device) files text)) (λ text. of-bad_script (script_read (unfiltered config.device) files text))

of-under : (content : Contents) (config : Config) (name : List ℕ) → ComesOfFiles (inputs_under content config name).came
of-under content config name =
    of-next (files_behind content config [] config.files).came (λ files. script_judged content config files name >>= (λ script. given (record { config = config; files = files; script = script })))
    (of-files content config [] config.files)
    (λ files. of-next {B = Inputs} (script_judged content config files name).came (λ script. given (record { config = config; files = files; script = script })) (of-script content config files name) (λ script. tt))

of-inputs : (content : Contents) (name : List ℕ) (config : Option (List ℕ)) → ComesOfFiles (inputs_judged content name config).came
of-inputs content name config =
    of-next (config_judged content config).came (λ settled. inputs_under content settled name) (of-config content config) (λ settled. of-under content settled name)

of-command : (content : Contents) (command : Command) → ComesOfFiles (command_judged content command).came
of-command content (RunScript script out config) = of-next (inputs_judged content script config).came (λ inputs. given (Runs out inputs)) (of-inputs content script config) (λ inputs. tt)
of-command content (CheckScript script config) = of-next (inputs_judged content script config).came (λ inputs. given (Checks inputs)) (of-inputs content script config) (λ inputs. tt)
of-command content (ConvertWave input out target) = of-next (conversion_judged content input target).came (λ conversion. given (Converts out conversion))
    (of-read content input (conversion_of input target) (of-conversion input target)) (λ conversion. tt)
of-command content (SoakRun n) = tt

-- ---- the statuses with which a verdict may end

may-not_read : (verdict : Result Accepted Fault) → ComesOfFiles verdict → MayEnd verdict 3
may-not_read (Ok accepted) of = inr (inl refl)
may-not_read (Err faults.Usage) of = absurd of
may-not_read (Err (faults.Missing name)) of = inl refl
may-not_read (Err (faults.BadConfig refusal)) of = inr (inl refl)
may-not_read (Err (faults.BadWave name kind)) of = inr (inl refl)
may-not_read (Err (faults.BadScript refusal)) of = inr (inl refl)

may-not_write : (verdict : Result Accepted Fault) → MayEnd verdict 7
may-not_write (Ok accepted) = inr (inr (inl refl))
may-not_write (Err faults.Usage) = inr (inl refl)
may-not_write (Err (faults.Missing name)) = inr (inl refl)
may-not_write (Err (faults.BadConfig refusal)) = inr (inr (inl refl))
may-not_write (Err (faults.BadWave name kind)) = inr (inr (inl refl))
may-not_write (Err (faults.BadScript refusal)) = inr (inr (inl refl))

may-lack : (verdict : Result Accepted Fault) → MayEnd verdict 8
may-lack (Ok accepted) = inr (inr (inr refl))
may-lack (Err faults.Usage) = inr (inr refl)
may-lack (Err (faults.Missing name)) = inr (inr refl)
may-lack (Err (faults.BadConfig refusal)) = inr (inr (inr refl))
may-lack (Err (faults.BadWave name kind)) = inr (inr (inr refl))
may-lack (Err (faults.BadScript refusal)) = inr (inr (inr refl))

-- a fault whose line was put has its own status
may-refuse : (fault : Fault) → MayRefuse fault (ending_status (ending_of fault))
may-refuse faults.Usage = inl refl
may-refuse (faults.Missing name) = inl refl
may-refuse (faults.BadConfig refusal) = inl refl
may-refuse (faults.BadWave name kind) = inl refl
may-refuse (faults.BadScript refusal) = inl refl

-- the verdict on words that spell a command
verdict-spelled : (words : List (List ℕ)) (files : FilesSeen) (spells : Spells words) → verdict_on words files ≡ (command_judged files.content spells.command).came
verdict-spelled words files spells = ap (λ (command : Option Command). (if_command files.content command).came) spells.is

may-refuse_file : (ending : Ending) (call : Call) → RefusesFile ending call → IsTrue call.before.files.tells → MayEnd (verdict_of call) (ending_status ending)
may-refuse_file ending call refuses told =
    let fault : Fault = refuses.refuses.fault in
    let verdict : verdict_of call ≡ Err fault = verdict-spelled call.words call.before.files refuses.spells ∙ refuses.refuses.came told in
    subst (λ (v : Result Accepted Fault). MayEnd v (ending_status ending)) (sym verdict)
    (subst (λ (e : Ending). MayRefuse fault (ending_status e)) (sym refuses.refuses.ended) (may-refuse fault))

pub may-end : (call : Call) (ending : Ending) → EndsCall call ending → IsTrue call.before.files.tells → MayEnd (verdict_of call) (ending_status ending)
may-end call Usage ends told =
    let verdict : verdict_of call ≡ Err faults.Usage = ap (λ (command : Option Command). (if_command call.before.files.content command).came) ends.cause in
    subst (λ (v : Result Accepted Fault). MayEnd v 2) (sym verdict) (inl refl)
may-end call CannotRead ends told = may-not_read (verdict_of call)
    (subst (λ (v : Result Accepted Fault). ComesOfFiles v) (sym (verdict-spelled call.words call.before.files ends.spells)) (of-command call.before.files.content ends.spells.command))
may-end call BadConfig ends told = may-refuse_file BadConfig call ends told
may-end call BadScript ends told = may-refuse_file BadScript call ends told
may-end call BadWave ends told = may-refuse_file BadWave call ends told
may-end call CannotWrite ends told = may-not_write (verdict_of call)
may-end call NoMemory ends told = may-lack (verdict_of call)

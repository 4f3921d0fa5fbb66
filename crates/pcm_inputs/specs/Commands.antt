-- What a contract sees of a command, which files a command may read, and what is accepted of it.
use Rattle.std.specs.Prelude.{◌≡◌, ◌⊎◌, ℕ, List, Option, Some, None, IfSome, option_map}
use Rattle.std.specs.Borrow.{Bor}
use Rattle.pcm_feeder.specs.Limits.{IsRate}
use Rattle.pcm_wave.specs.Headers.{IsWaveFormat}
use Rattle.pcm_verdict.specs.Commands as verdicts
use Rattle.pcm_verdict.specs.Commands.{RunScript, CheckScript, ConvertWave, SoakRun}
use Rattle.pcm_verdict.specs.Verdict.{Accepted, Runs, Checks, Converts, Soaks}
use Rattle.pcm_inputs.specs.declared.words.Command.{Command}
use Rattle.pcm_inputs.specs.declared.words.Command.TheVariants.{Run, Check, Convert, Soak}

-- a name, where there is one
abbrev pub named : Option (Bor (List ℕ)) → Option (List ℕ)
named name = option_map (λ shown. shown.now) name

-- the names and the settings that a command has
abbrev pub command_seen : Command → verdicts.Command
command_seen (Run script out config) = RunScript script.now out.now (named config)
command_seen (Check script config) = CheckScript script.now (named config)
command_seen (Convert input out target) = ConvertWave input.now out.now target
command_seen (Soak seed) = SoakRun seed

-- a configuration is read, and may name files of any names
abbrev pub MayNameFiles : Option (List ℕ) → Type 0
MayNameFiles None = ⊥
MayNameFiles (Some name) = Unit {0}

-- a name of a file that a command may read: one of its words, or one that its configuration may have
abbrev pub MayRead : verdicts.Command → List ℕ → Type 0
MayRead (RunScript script out config) name = (name ≡ script) ⊎ MayNameFiles config
MayRead (CheckScript script config) name = (name ≡ script) ⊎ MayNameFiles config
MayRead (ConvertWave input out target) name = name ≡ input
MayRead (SoakRun n) name = ⊥

-- an accepted call is of a command: of its kind, with the names and the values of its words
abbrev pub IsOf : verdicts.Command → Accepted → Type 0
IsOf (RunScript script out config) (Runs name inputs) = name ≡ out
IsOf (CheckScript script config) (Checks inputs) = Unit {0}
IsOf (ConvertWave input out target) (Converts name conversion) = (name ≡ out) × (conversion.target ≡ target)
IsOf (SoakRun n) (Soaks number) = number ≡ n
IsOf command accepted = ⊥

-- words that ask for no file to be written: those of no form, of a check, of a soak
abbrev pub WriteNoFile : Option verdicts.Command → Type 0
WriteNoFile (Some (RunScript script out config)) = ⊥
WriteNoFile (Some (ConvertWave input out target)) = ⊥
WriteNoFile command = Unit {0}

-- a command asks for settings within the limits
abbrev pub AreLimits : Command → Type 0
AreLimits (Convert input out target) = IsRate target.rate × IsWaveFormat target.format
AreLimits command = Unit {0}

-- the command that words ask for, within the limits, or none
pub record IsAskedBy (asked : Option verdicts.Command) (result : Option Command) : Type 0 where
  pub value : option_map command_seen result ≡ asked
  pub limits : IfSome result AreLimits

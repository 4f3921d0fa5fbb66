-- What a call did, by its ending.
use Rattle.std.specs.Prelude.{◌≡◌, Option, Some, None, Ok}
use Rattle.pcm_config.specs.Configs.{device_seen}
use Rattle.pcm_feeder.specs.declared.kind.Kind.{Kind}
use Rattle.pcm_feeder.specs.Kept.{Kept}
use Rattle.pcm_engine.specs.declared.engine.EngineOf.{EngineOf}
use Rattle.pcm_verdict.specs.Commands.{Command}
use Rattle.pcm_verdict.specs.Outputs.{inputs_pool, output_of}
use Rattle.pcm_verdict.specs.Verdict.{Accepted, Runs, Checks, Converts, Soaks, Inputs}
use Rattle.pcm_inputs.specs.declared.ending.Ending.{Ending}
use Rattle.pcm_inputs.specs.declared.ending.Ending.TheVariants.{Usage, CannotRead, BadConfig, BadScript, BadWave, CannotWrite, NoMemory}
use Rattle.pcm_inputs.specs.Commands.{IsOf}
use Rattle.pcm_inputs.specs.Outside.{Lent, Outside}
use Rattle.pcm_soak_command.specs.Running.{RanThrough}
use Rattle.pcm_soak_command.specs.Soaking.{RanSoak}
use Rattle.pcm_replay.specs.Calls.{Call}
use Rattle.pcm_replay.specs.Cuts.{CutsCall}
use Rattle.pcm_replay.specs.Outcomes.{CannotReadOne, IsCut, LacksMemory, RefusesConfig, RefusesScript, RefusesWave, RefusesWords, Spells, command_part}
use Rattle.pcm_inputs.specs.Reads.{Comes, CutsLine, FailsToReadOne, Lacks, RefusesPart}
use Rattle.pcm_convert_command.specs.Written.{WritesAll}

-- what a call did that ended early
abbrev pub EndsCall : Call → Ending → Type 0
EndsCall call Usage = RefusesWords call
EndsCall call CannotRead = CannotReadOne call
EndsCall call BadConfig = RefusesConfig call
EndsCall call BadScript = RefusesScript call
EndsCall call BadWave = RefusesWave call
EndsCall call CannotWrite = IsCut call
EndsCall call NoMemory = LacksMemory call

-- what was accepted was done: all that it is to leave is there
abbrev pub Does : Accepted → Outside → Outside → Type 0
Does accepted before after = WritesAll (output_of accepted) before after

-- how what was accepted ended early
abbrev pub Cuts : Accepted → Outside → Outside → Ending → Type 0
Cuts accepted before after CannotWrite = CutsCall accepted before after
Cuts accepted before after NoMemory = after ≡ before
Cuts accepted before after ending = ⊥

-- an engine ran the script of these inputs
abbrev pub RanInputs : {B : Type 0} → (B → Kind) → (B → Kept) → EngineOf B → Inputs → Type 0
RanInputs kind kept engine inputs = RanThrough kind kept engine (device_seen inputs.config) (inputs_pool inputs) inputs.script.events

-- an engine ran where a script was to be run, and there is none elsewhere
abbrev pub HasRun : {B : Type 0} → (B → Kind) → (B → Kept) → Option (EngineOf B) → Accepted → Type 0
HasRun kind kept (Some engine) (Runs out inputs) = RanInputs kind kept engine inputs
HasRun kind kept (Some engine) (Soaks n) = RanSoak kind kept engine n
HasRun kind kept None (Checks inputs) = Unit {0}
HasRun kind kept None (Converts out conversion) = Unit {0}
HasRun kind kept ran accepted = ⊥

-- a command was done to its end
pub record DoesCommand {B : Type 0} (kind : B → Kind) (kept : B → Kept) (command : Command) (before after : Outside) (engine : Option (EngineOf B)) : Type 0 where
  pub accepted : Accepted
  pub is_of : IsOf command accepted
  pub came : Comes (command_part command) (Ok accepted) before.files
  pub ran : HasRun kind kept engine accepted
  pub writes : Does accepted before after

-- what a command that was accepted was to leave was cut short
pub record CutsCommand (command : Command) (before after : Outside) : Type 0 where
  pub accepted : Accepted
  pub is_of : IsOf command accepted
  pub came : Comes (command_part command) (Ok accepted) before.files
  pub cut : CutsCall accepted before after

-- a write failed, in a fault's line or in what was to be left
pub data IsCommandCut (command : Command) (before after : Outside) : Type 0 where
  InLine : CutsLine (command_part command) before after → IsCommandCut command before after
  InAccepted : CutsCommand command before after → IsCommandCut command before after

-- what a command did that ended early
abbrev pub EndsCommand : Command → Outside → Outside → Ending → Type 0
EndsCommand command before after Usage = ⊥
EndsCommand command before after CannotRead = FailsToReadOne (command_part command) before after
EndsCommand command before after BadConfig = RefusesPart (command_part command) BadConfig before after
EndsCommand command before after BadScript = RefusesPart (command_part command) BadScript before after
EndsCommand command before after BadWave = RefusesPart (command_part command) BadWave before after
EndsCommand command before after CannotWrite = IsCommandCut command before after
EndsCommand command before after NoMemory = Lacks before after

-- words that spell a command, which was done to its end
pub record DoesWords {B : Type 0} (kind : B → Kind) (kept : B → Kept) (call : Call) (engine : Option (EngineOf B)) : Type 0 where
  pub spells : Spells call.words
  pub does : DoesCommand kind kept spells.command call.before call.after engine

-- the engine of a run is left, and without a run what was there stays
abbrev pub LeavesEngine : {B : Type 0} → Option (EngineOf B) → Option (EngineOf B) → Option (EngineOf B) → Type 0
LeavesEngine None old new = new ≡ old
LeavesEngine (Some engine) old new = new ≡ Some engine

-- a call that was done to its end, and what became of its engine
pub record Finishes {B : Type 0} (kind : B → Kind) (kept : B → Kept) (ran : Lent (Option (EngineOf B))) (call : Call) : Type 0 where
  pub engine : Option (EngineOf B)
  pub does : DoesWords kind kept call engine
  pub leaves : LeavesEngine engine ran.entry.now ran.exit.now

-- The outcome of a command: of what it reads, and then of what it writes.
use Rattle.std.proofs.Common.{◌≡◌, ℕ, List, Option, None, Some, Ok, IsTrue, refl, sym, ap, ◌∙◌, subst}
use Rattle.pcm_format.specs.declared.settings.Settings.{Settings}
use Rattle.pcm_outside.specs.Files.{FilesSeen, OnlyReads}
use Rattle.pcm_outside.specs.Sink.{SinkSeen, FailsToPut, Puts}
use Rattle.pcm_feeder.specs.declared.kind.Kind.{Kind}
use Rattle.pcm_feeder.specs.Kept.{Kept}
use Rattle.pcm_engine.specs.declared.engine.EngineOf.{EngineOf}
use Rattle.pcm_verdict.specs.Commands.{Command, command_of, RunScript, CheckScript, ConvertWave, SoakRun}
use Rattle.pcm_verdict.specs.Judging.{given}
use Rattle.pcm_verdict.specs.Outputs.{Output, Written, output_of}
use Rattle.pcm_verdict.specs.Verdict.{Accepted, Runs, Checks, Converts, Soaks, Conversion, Inputs, if_command}
use Rattle.pcm_inputs.specs.declared.ending.Ending.{Ending}
use Rattle.pcm_inputs.specs.declared.ending.Ending.TheVariants.{Usage, CannotRead, BadConfig, BadScript, BadWave, CannotWrite, NoMemory}
use Rattle.pcm_inputs.specs.Commands.{IsOf, MayRead}
use Rattle.pcm_inputs.specs.Faults.{CutsLines}
use Rattle.pcm_replay.specs.Endings.{Cuts, DoesCommand, EndsCall, EndsCommand, HasRun, InAccepted, InLine, IsCommandCut}
use Rattle.pcm_replay.specs.Calls.{Call}
use Rattle.pcm_replay.specs.Outcomes.{InFaultLine, InForms, InOutput, IsCut, Spells, TellsForms, command_part, verdict_on}
use Rattle.pcm_replay.specs.Cuts.{CutsCall}
use Rattle.pcm_inputs.specs.Outside.{Outside, outside}
use Rattle.pcm_inputs.specs.Parts.{conversion_part, inputs_part}
use Rattle.pcm_inputs.specs.Reads.{Comes, Ends, OnlyHasRead, Part}
use Rattle.pcm_convert_command.specs.Written.{AtPut, CutsOutput, EndsOutput, WritesAll}
use Rattle.pcm_replay.proofs.Cuts.{cut-later, written-later}
use Rattle.pcm_inputs.proofs.Parts.{LeadsTo, comes-next, ends-as, leads-first, reads-nothing}

-- ---- what a command reads

pub leads-run : (script out : List ℕ) (config : Option (List ℕ)) (files : FilesSeen) → LeadsTo (command_part (RunScript script out config)) (inputs_part script config) files
leads-run script out config files = leads-first (inputs_part script config) (λ content inputs. given (Runs out inputs)) (MayRead (RunScript script out config)) files (λ name allowed. allowed)

pub comes-run : (script out : List ℕ) (config : Option (List ℕ)) (inputs : Inputs) (files : FilesSeen) → Comes (inputs_part script config) (Ok inputs) files
    → Comes (command_part (RunScript script out config)) (Ok (Runs out inputs)) files
comes-run script out config inputs files came =
    comes-next (inputs_part script config) (λ content read. given (Runs out read)) (MayRead (RunScript script out config)) files inputs (Ok (Runs out inputs)) came (λ told. refl)

pub leads-check : (script : List ℕ) (config : Option (List ℕ)) (files : FilesSeen) → LeadsTo (command_part (CheckScript script config)) (inputs_part script config) files
leads-check script config files = leads-first (inputs_part script config) (λ content inputs. given (Checks inputs)) (MayRead (CheckScript script config)) files (λ name allowed. allowed)

pub comes-check : (script : List ℕ) (config : Option (List ℕ)) (inputs : Inputs) (files : FilesSeen) → Comes (inputs_part script config) (Ok inputs) files
    → Comes (command_part (CheckScript script config)) (Ok (Checks inputs)) files
comes-check script config inputs files came =
    comes-next (inputs_part script config) (λ content read. given (Checks read)) (MayRead (CheckScript script config)) files inputs (Ok (Checks inputs)) came (λ told. refl)

pub leads-convert : (input out : List ℕ) (target : Settings) (files : FilesSeen) → LeadsTo (command_part (ConvertWave input out target)) (conversion_part input target) files
leads-convert input out target files = leads-first (conversion_part input target) (λ content conversion. given (Converts out conversion)) (MayRead (ConvertWave input out target)) files (λ name allowed. allowed)

pub comes-convert : (input out : List ℕ) (target : Settings) (conversion : Conversion) (files : FilesSeen) → Comes (conversion_part input target) (Ok conversion) files
    → Comes (command_part (ConvertWave input out target)) (Ok (Converts out conversion)) files
comes-convert input out target conversion files came =
    comes-next (conversion_part input target) (λ content read. given (Converts out read)) (MayRead (ConvertWave input out target)) files conversion (Ok (Converts out conversion)) came (λ told. refl)

-- a number that makes a script says all: nothing is read
pub comes-soak : (n : ℕ) (files : FilesSeen) → Comes (command_part (SoakRun n)) (Ok (Soaks n)) files
comes-soak n files = λ told. refl

-- ---- how it ends

-- an end of all that a command reads
of-part : (command : Command) (ending : Ending) (before after : Outside) → Ends (command_part command) before after ending → EndsCommand command before after ending
of-part command Usage before after ends = ends
of-part command CannotRead before after ends = ends
of-part command BadConfig before after ends = ends
of-part command BadScript before after ends = ends
of-part command BadWave before after ends = ends
of-part command CannotWrite before after ends = InLine ends
of-part command NoMemory before after ends = ends

pub ends-command : {A : Type 0} (command : Command) (part : Part A) (ending : Ending) (before after : Outside) → LeadsTo (command_part command) part before.files → Ends part before after ending
    → EndsCommand command before after ending
ends-command command part ending before after leads ends = of-part command ending before after (ends-as (command_part command) part ending before after leads ends)

-- what it was to leave was cut short, once all was read
pub cuts-command : (command : Command) (accepted : Accepted) (ending : Ending) (before between after : Outside) → IsOf command accepted → Comes (command_part command) (Ok accepted) before.files → OnlyHasRead before between
    → Cuts accepted between after ending → EndsCommand command before after ending
cuts-command command accepted Usage before between after is_of came only cut = absurd cut
cuts-command command accepted CannotRead before between after is_of came only cut = absurd cut
cuts-command command accepted BadConfig before between after is_of came only cut = absurd cut
cuts-command command accepted BadScript before between after is_of came only cut = absurd cut
cuts-command command accepted BadWave before between after is_of came only cut = absurd cut
cuts-command command accepted CannotWrite before between after is_of came only cut =
    InAccepted (record { accepted = accepted; is_of = is_of; came = came; cut = cut-later accepted before between after only cut })
cuts-command command accepted NoMemory before between after is_of came only same = record {
  files = subst (λ (outside : Outside). OnlyReads before.files outside.files) (sym same) only.files;
  sink = ap (λ (outside : Outside). outside.sink) same ∙ only.sink;
}

-- it was done to its end
pub does-command : {B : Type 0} (kind : B → Kind) (kept : B → Kept) (command : Command) (accepted : Accepted) (engine : Option (EngineOf B)) (before between after : Outside) → IsOf command accepted
    → Comes (command_part command) (Ok accepted) before.files → OnlyHasRead before between → HasRun kind kept engine accepted → WritesAll (output_of accepted) between after → DoesCommand kind kept command before after engine
does-command kind kept command accepted engine before between after is_of came only ran writes = record {
  accepted = accepted;
  is_of = is_of;
  came = came;
  ran = ran;
  writes = written-later (output_of accepted) before between after only writes;
}

-- ---- lines alone

-- lines that were put are all that a call was to leave which writes no file
pub writes-lines : (accepted : Accepted) (lines : List ℕ) (files : FilesSeen) (old new : SinkSeen) → output_of accepted ≡ record { file = None; lines = lines } → Puts old new lines
    → WritesAll (output_of accepted) (outside files old) (outside files new)
writes-lines accepted lines files old new is puts = subst (λ (output : Output). WritesAll output (outside files old) (outside files new)) (sym is)
    (record { written = record { only = reads-nothing files; kept = record { read_faults = refl; failed = refl } }; put = puts })

-- lines of which the put failed
cuts-put : (lines : List ℕ) (files : FilesSeen) (old new : SinkSeen) → FailsToPut old new lines → CutsOutput (record { file = None; lines = lines }) (outside files old) (outside files new)
cuts-put lines files old new cut = AtPut (record { written = record { only = reads-nothing files; kept = record { read_faults = refl; failed = refl } }; put = cut })

-- a file is to be left
abbrev HasFile : Option Written → Type 0
HasFile None = ⊥
HasFile (Some written) = Unit {0}

cuts-call : (accepted : Accepted) (lines : List ℕ) (files : FilesSeen) (old new : SinkSeen) → output_of accepted ≡ record { file = None; lines = lines } → FailsToPut old new lines
    → CutsCall accepted (outside files old) (outside files new)
cuts-call (Runs out inputs) lines files old new is cut = absurd (subst (λ (output : Output). HasFile output.file) is tt)
cuts-call (Checks inputs) lines files old new is cut = subst (λ (output : Output). CutsOutput output (outside files old) (outside files new)) (sym is) (cuts-put lines files old new cut)
cuts-call (Converts out conversion) lines files old new is cut = absurd (subst (λ (output : Output). HasFile output.file) is tt)
cuts-call (Soaks n) lines files old new is cut = subst (λ (output : Output). CutsOutput output (outside files old) (outside files new)) (sym is) (cuts-put lines files old new cut)

pub cuts-lines : (ending : Ending) (accepted : Accepted) (lines : List ℕ) (files : FilesSeen) (old new : SinkSeen) → output_of accepted ≡ record { file = None; lines = lines } → CutsLines lines old new ending
    → Cuts accepted (outside files old) (outside files new) ending
cuts-lines Usage accepted lines files old new is cut = cut
cuts-lines CannotRead accepted lines files old new is cut = cut
cuts-lines BadConfig accepted lines files old new is cut = cut
cuts-lines BadScript accepted lines files old new is cut = cut
cuts-lines BadWave accepted lines files old new is cut = cut
cuts-lines CannotWrite accepted lines files old new is cut = cuts-call accepted lines files old new is cut
cuts-lines NoMemory accepted lines files old new is same = ap (outside files) same

-- ---- a conversion

pub cuts-conversion : (name : List ℕ) (conversion : Conversion) (ending : Ending) (before after : Outside) → EndsOutput (output_of (Converts name conversion)) before after ending
    → Cuts (Converts name conversion) before after ending
cuts-conversion name conversion Usage before after cut = cut
cuts-conversion name conversion CannotRead before after cut = cut
cuts-conversion name conversion BadConfig before after cut = cut
cuts-conversion name conversion BadScript before after cut = cut
cuts-conversion name conversion BadWave before after cut = cut
cuts-conversion name conversion CannotWrite before after cut = cut
cuts-conversion name conversion NoMemory before after cut = cut

-- ---- the words that spell it

-- the outcome of a command is the verdict of its words
pub verdict-of : (words : List (List ℕ)) (spells : Spells words) (accepted : Accepted) (files : FilesSeen) → Comes (command_part spells.command) (Ok accepted) files → IsTrue files.tells
    → verdict_on words files ≡ Ok accepted
verdict-of words spells accepted files came told = ap (λ (command : Option Command). (if_command files.content command).came) spells.is ∙ came told

cut-words : (call : Call) (spells : Spells call.words) → IsCommandCut spells.command call.before call.after → IsCut call
cut-words call spells (InLine line) = InFaultLine (record { spells = spells; line = line })
cut-words call spells (InAccepted cut) = InOutput (record {
  accepted = cut.accepted;
  is_named = record { spells = spells; is_of = cut.is_of; cause = verdict-of call.words spells cut.accepted call.before.files cut.came };
  cut = cut.cut;
})

pub ends-call : (call : Call) (spells : Spells call.words) (ending : Ending) → EndsCommand spells.command call.before call.after ending → EndsCall call ending
ends-call call spells Usage ends = absurd ends
ends-call call spells CannotRead ends = record { spells = spells; read = ends }
ends-call call spells BadConfig ends = record { spells = spells; refuses = ends }
ends-call call spells BadScript ends = record { spells = spells; refuses = ends }
ends-call call spells BadWave ends = record { spells = spells; refuses = ends }
ends-call call spells CannotWrite ends = cut-words call spells ends
ends-call call spells NoMemory ends = record { spells = spells; lacks = ends }

-- words that match no form
pub ends-formless : (words : List (List ℕ)) (files : FilesSeen) (old new : SinkSeen) (ending : Ending) → command_of words ≡ None → TellsForms ending old new
    → EndsCall (record { words = words; before = outside files old; after = outside files new }) ending
ends-formless words files old new Usage formless told = record { cause = formless; files = refl; forms = told }
ends-formless words files old new CannotRead formless told = absurd told
ends-formless words files old new BadConfig formless told = absurd told
ends-formless words files old new BadScript formless told = absurd told
ends-formless words files old new BadWave formless told = absurd told
ends-formless words files old new CannotWrite formless cut = InForms (record { cause = formless; files = refl; forms = cut })
ends-formless words files old new NoMemory formless told = absurd told

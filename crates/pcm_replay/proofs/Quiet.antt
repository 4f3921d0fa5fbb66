-- A call that is to write no file fails at its sink alone.
use Rattle.std.proofs.Common.{◌≡◌, ◌∙◌, Option, None, Some, refl, sym, subst}
use Rattle.pcm_verdict.specs.Commands.{Command, RunScript, CheckScript, ConvertWave, SoakRun}
use Rattle.pcm_verdict.specs.Outputs.{Output, Written, output_of}
use Rattle.pcm_verdict.specs.Verdict.{Accepted, Runs, Checks, Converts, Soaks}
use Rattle.pcm_outside.specs.Files.{FilesSeen, OnlyReads}
use Rattle.pcm_inputs.specs.Commands.{IsOf, WriteNoFile}
use Rattle.pcm_replay.specs.Cuts.{CutsCall}
use Rattle.pcm_replay.specs.Calls.{Call}
use Rattle.pcm_replay.specs.Outcomes.{FailsAtSink, InFaultLine, InForms, InOutput, IsCut, OnlyPutFails}
use Rattle.pcm_inputs.specs.Outside.{Outside}
use Rattle.pcm_convert_command.specs.Written.{AtAppend, AtCreate, AtPut, CutsOutput, WritesFile}
use Rattle.pcm_inputs.proofs.Parts.{reads-nothing}

-- what was to be left has no file
no-file : (output : Output) (before after : Outside) → output.file ≡ None → CutsOutput output before after → OnlyPutFails before after
no-file output before after none (AtCreate written is cut) = absurd (let e : None ≡ Some written = sym none ∙ is in cc)
no-file output before after none (AtAppend written is cut) = absurd (let e : None ≡ Some written = sym none ∙ is in cc)
no-file output before after none (AtPut cut) =
    let written = subst (λ (file : Option Written). WritesFile file before.files after.files) none cut.written in
    record { files = written.only; put = cut.put.rose }

no-file-call : (command : Command) (accepted : Accepted) (before after : Outside) → WriteNoFile (Some command) → IsOf command accepted → CutsCall accepted before after → OnlyPutFails before after
no-file-call (CheckScript script config) (Checks inputs) before after quiet is cut = no-file (output_of (Checks inputs)) before after refl cut
no-file-call (SoakRun n) (Soaks number) before after quiet is cut = no-file (output_of (Soaks number)) before after refl cut
no-file-call (RunScript script out config) accepted before after quiet is cut = absurd quiet
no-file-call (ConvertWave input out target) accepted before after quiet is cut = absurd quiet
no-file-call (CheckScript script config) (Runs name inputs) before after quiet is cut = absurd is
no-file-call (CheckScript script config) (Converts name conversion) before after quiet is cut = absurd is
no-file-call (CheckScript script config) (Soaks number) before after quiet is cut = absurd is
no-file-call (SoakRun n) (Runs name inputs) before after quiet is cut = absurd is
no-file-call (SoakRun n) (Checks inputs) before after quiet is cut = absurd is
no-file-call (SoakRun n) (Converts name conversion) before after quiet is cut = absurd is

-- and so it is of all words that ask for no file
pub only-put-fails : (call : Call) → IsCut call → FailsAtSink call
only-put-fails call (InForms cut) quiet = record {
  files = subst (λ (files : FilesSeen). OnlyReads call.before.files files) (sym cut.files) (reads-nothing call.before.files);
  put = cut.forms.rose;
}
only-put-fails call (InFaultLine cut) quiet = record { files = cut.line.files; put = cut.line.put.rose }
only-put-fails call (InOutput cut) quiet =
    let spells = cut.is_named.spells in
    no-file-call spells.command cut.accepted call.before call.after (subst WriteNoFile spells.is quiet) cut.is_named.is_of cut.cut

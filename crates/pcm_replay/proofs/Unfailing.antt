-- The status of a call where no read, write or put failed.
use Rattle.std.proofs.Common.{◌≡◌, ◌⊎◌, ℕ, List, Option, Result, Ok, Err, inl, inr, sym, subst}
use Rattle.pcm_verdict.specs.Faults as faults
use Rattle.pcm_verdict.specs.Faults.{Fault}
use Rattle.pcm_verdict.specs.Outputs.{Output, output_of}
use Rattle.pcm_verdict.specs.Verdict.{Accepted, Runs, Checks, Converts, Soaks}
use Rattle.pcm_inputs.specs.declared.ending.Ending.{Ending}
use Rattle.pcm_inputs.specs.declared.ending.Ending.TheVariants.{CannotRead, CannotWrite}
use Rattle.pcm_inputs.specs.Faults.{ending_status}
use Rattle.pcm_inputs.specs.Outside.{Outside, WriteRose}
use Rattle.pcm_convert_command.specs.Written.{AtAppend, AtCreate, AtPut, CutsOutput}
use Rattle.pcm_feeder.specs.declared.kind.Kind.{Kind}
use Rattle.pcm_feeder.specs.Kept.{Kept}
use Rattle.pcm_replay.specs.Calls.{Call}
use Rattle.pcm_replay.specs.Cuts.{CutsCall, CutsRun, RunAtCreate, RunInBytes, RunInHeader, RunInLine}
use Rattle.pcm_replay.specs.Endings.{DoesWords, EndsCall}
use Rattle.pcm_replay.specs.Outcomes.{EndsUnfailing, InFaultLine, InForms, InOutput, IsCut, MayEnd, MayEndUnfailing, MayRefuse, MayRefuseUnfailing, verdict_of}
use Rattle.pcm_engine.specs.declared.engine.EngineOf.{EngineOf}
use Rattle.pcm_replay.specs.Playback.{Playback, playback_of}
use Rattle.pcm_replay.proofs.Doing.{verdict-of}
use Rattle.pcm_replay.proofs.Statuses.{ended-as, may-end}

-- ---- what was cut short was so by a write or a put that failed

output-rose : (output : Output) (before after : Outside) → CutsOutput output before after → WriteRose before after
output-rose output before after (AtCreate written is cut) = inl cut.file.rose
output-rose output before after (AtAppend written is cut) = inl cut.rose
output-rose output before after (AtPut cut) = inr cut.put.rose

run-rose : (name head : List ℕ) (playback : Playback) (before after : Outside) → CutsRun name head playback before after → WriteRose before after
run-rose name head playback before after (RunAtCreate cut) = inl cut.file.rose
run-rose name head playback before after (RunInHeader cut) = inl cut.rose
run-rose name head playback before after (RunInBytes cut) = inl cut.rose
run-rose name head playback before after (RunInLine cut) = inr cut.rose

call-rose : (accepted : Accepted) (before after : Outside) → CutsCall accepted before after → WriteRose before after
call-rose (Runs out inputs) before after cut = run-rose _ _ (playback_of inputs) before after cut
call-rose (Checks inputs) before after cut = output-rose (output_of (Checks inputs)) before after cut
call-rose (Converts out conversion) before after cut = output-rose (output_of (Converts out conversion)) before after cut
call-rose (Soaks n) before after cut = output-rose (output_of (Soaks n)) before after cut

pub cut-rose : (call : Call) → IsCut call → WriteRose call.before call.after
cut-rose call (InForms cut) = inr cut.forms.rose
cut-rose call (InFaultLine cut) = inr cut.line.put.rose
cut-rose call (InOutput cut) = call-rose cut.accepted call.before call.after cut.cut

-- ---- the verdict's status is left

-- a verdict's own status, or that of a read, of a write or of memory
own-or-lacks : (status own : ℕ) → (status ≡ own) ⊎ ((status ≡ 3) ⊎ ((status ≡ 7) ⊎ (status ≡ 8))) → (status ≡ 3 → ⊥) → (status ≡ 7 → ⊥) → (status ≡ own) ⊎ (status ≡ 8)
own-or-lacks status own may read write = elim may [
  | inl is ↦ inl is
  | inr more ↦ elim more [ inl three ↦ absurd (read three) | inr last ↦ elim last [ inl seven ↦ absurd (write seven) | inr eight ↦ inr eight ] ]
]

refuses-unfailing : (fault : Fault) (status : ℕ) → MayRefuse fault status → (status ≡ 3 → ⊥) → (status ≡ 7 → ⊥) → MayRefuseUnfailing fault status
refuses-unfailing faults.Usage status may read write = elim may [ inl own ↦ inl own | inr more ↦ elim more [ inl cut ↦ absurd (write cut) | inr lacks ↦ inr lacks ] ]
refuses-unfailing (faults.Missing name) status may read write = elim may [ inl own ↦ absurd (read own) | inr more ↦ elim more [ inl cut ↦ absurd (write cut) | inr lacks ↦ lacks ] ]
refuses-unfailing (faults.BadConfig refusal) status may read write = own-or-lacks status 4 may read write
refuses-unfailing (faults.BadScript refusal) status may read write = own-or-lacks status 5 may read write
refuses-unfailing (faults.BadWave name kind) status may read write = own-or-lacks status 6 may read write

ends-unfailing : (verdict : Result Accepted Fault) (status : ℕ) → MayEnd verdict status → (status ≡ 3 → ⊥) → (status ≡ 7 → ⊥) → MayEndUnfailing verdict status
ends-unfailing (Ok accepted) status may read write = own-or-lacks status 0 may read write
ends-unfailing (Err fault) status may read write = refuses-unfailing fault status may read write

-- what ended before its end
pub unfailing : (call : Call) (ending : Ending) (status : ℕ) → status ≡ ending_status ending → EndsCall call ending → EndsUnfailing call status
unfailing call ending status named ends = λ told quiet.
    ends-unfailing (verdict_of call) status
    (subst (λ (s : ℕ). MayEnd (verdict_of call) s) (sym named) (may-end call ending ends told))
    (λ three. quiet (inl (ended-as call ending CannotRead status named three ends).read.read.rose))
    (λ seven. quiet (inr (cut-rose call (ended-as call ending CannotWrite status named seven ends))))

-- what was done to its end
pub done-unfailing : {B : Type 0} (kind : B → Kind) (kept : B → Kept) (call : Call) (engine : Option (EngineOf B)) (status : ℕ) → status ≡ 0 → DoesWords kind kept call engine → EndsUnfailing call status
done-unfailing kind kept call engine status done does = λ told quiet.
    subst (λ (v : Result Accepted Fault). MayEndUnfailing v status)
    (sym (verdict-of call.words does.spells does.does.accepted call.before.files does.does.came told)) (inl done)

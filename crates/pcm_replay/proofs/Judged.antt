-- What the status of a call says, by how it ended.
use Rattle.std.proofs.Common.{◌≡◌, ◌≢◌, ℕ, List, Option, None, Some, Result, refl, sym, ◌∙◌, subst, inl}
use Rattle.pcm_feeder.specs.declared.kind.Kind.{Kind}
use Rattle.pcm_feeder.specs.Kept.{Kept}
use Rattle.pcm_engine.specs.declared.engine.EngineOf.{EngineOf}
use Rattle.pcm_outside.specs.Counts.{Rose}
use Rattle.pcm_verdict.specs.Commands.{command_of}
use Rattle.pcm_verdict.specs.Faults.{Fault}
use Rattle.pcm_verdict.specs.Outputs.{output_of}
use Rattle.pcm_verdict.specs.Verdict.{Accepted}
use Rattle.pcm_inputs.specs.Faults.{ending_status}
use Rattle.pcm_inputs.specs.declared.ending.Ending.{Ending}
use Rattle.pcm_inputs.specs.declared.ending.Ending.TheVariants.{Usage, CannotRead, BadConfig, BadScript, BadWave, CannotWrite, NoMemory}
use Rattle.pcm_replay.specs.Calls.{Call}
use Rattle.pcm_replay.specs.Endings.{DoesWords, EndsCall}
use Rattle.pcm_replay.specs.Outcomes.{FailsAtLine, FailsToWrite, InFaultLine, InForms, InOutput, IsAcceptedBy, IsCut, IsJudged, IsRefusedBy, MayEnd, Spells, verdict_of}
use Rattle.pcm_replay.proofs.Doing.{verdict-of}
use Rattle.pcm_replay.proofs.Quiet.{only-put-fails}
use Rattle.pcm_replay.proofs.Statuses.{ended-as, may-end, none-rose}
use Rattle.pcm_replay.proofs.Unfailing.{cut-rose, done-unfailing, unfailing}

-- words that spell a command match a form
matches : {T : Type 0} (words : List (List ℕ)) → Spells words → command_of words ≡ None → T
matches words spells none = absurd (let e : Some spells.command ≡ None = sym spells.is ∙ none in cc)

-- ---- a call that was done to its end

pub judged-done : {B : Type 0} (kind : B → Kind) (kept : B → Kept) (call : Call) (engine : Option (EngineOf B)) → DoesWords kind kept call engine → IsJudged call 0
judged-done kind kept call engine does =
    let accepted = does.does.accepted in
    let verdict = verdict-of call.words does.spells accepted call.before.files does.does.came in
    record {
      completeness = λ told. subst (λ (v : Result Accepted Fault). MayEnd v 0) (sym (verdict told)) (inl refl);
      unfailing = done-unfailing kind kept call engine 0 refl does;
      formless = matches call.words does.spells;
      accepted = λ zero told. subst IsAcceptedBy (sym (verdict told)) tt;
      no_rise = λ zero. none-rose (output_of accepted).file call.before call.after does.does.writes.written does.does.writes.put.faults;
    }

-- ---- a call that ended early

-- its status isn't 0
above-none : {T : Type 0} (ending : Ending) (status : ℕ) → status ≡ ending_status ending → status ≡ 0 → T
above-none Usage status named zero = absurd (let e : 0 ≡ 2 = sym zero ∙ named in cc)
above-none CannotRead status named zero = absurd (let e : 0 ≡ 3 = sym zero ∙ named in cc)
above-none BadConfig status named zero = absurd (let e : 0 ≡ 4 = sym zero ∙ named in cc)
above-none BadScript status named zero = absurd (let e : 0 ≡ 5 = sym zero ∙ named in cc)
above-none BadWave status named zero = absurd (let e : 0 ≡ 6 = sym zero ∙ named in cc)
above-none CannotWrite status named zero = absurd (let e : 0 ≡ 7 = sym zero ∙ named in cc)
above-none NoMemory status named zero = absurd (let e : 0 ≡ 8 = sym zero ∙ named in cc)

cut-formless : (call : Call) → IsCut call → command_of call.words ≡ None → Rose call.before.sink.faults call.after.sink.faults
cut-formless call (InForms cut) none = cut.forms.rose
cut-formless call (InFaultLine cut) none = matches call.words cut.spells none
cut-formless call (InOutput cut) none = matches call.words cut.is_named.spells none

-- of words that match no form
formless : (call : Call) (ending : Ending) (status : ℕ) → status ≡ ending_status ending → EndsCall call ending → command_of call.words ≡ None → status ≢ 2
    → (status ≡ 7) × Rose call.before.sink.faults call.after.sink.faults
formless call Usage status named ends none other = absurd (other named)
formless call CannotRead status named ends none other = matches call.words ends.spells none
formless call BadConfig status named ends none other = matches call.words ends.spells none
formless call BadScript status named ends none other = matches call.words ends.spells none
formless call BadWave status named ends none other = matches call.words ends.spells none
formless call CannotWrite status named ends none other = (named, cut-formless call ends none)
formless call NoMemory status named ends none other = matches call.words ends.spells none

pub judged-ended : (call : Call) (ending : Ending) (status : ℕ) → status ≡ ending_status ending → EndsCall call ending → IsJudged call status
judged-ended call ending status named ends = record {
  completeness = λ told. subst (MayEnd (verdict_of call)) (sym named) (may-end call ending ends told);
  unfailing = unfailing call ending status named ends;
  formless = formless call ending status named ends;
  accepted = above-none ending status named;
  no_rise = above-none ending status named;
}

-- ---- a write that failed

at-line : (call : Call) → IsCut call → FailsAtLine call
at-line call (InForms cut) told refused = cut.forms.rose
at-line call (InFaultLine cut) told refused = cut.line.put.rose
at-line call (InOutput cut) told refused = absurd (subst IsRefusedBy (cut.is_named.cause told) refused)

pub cut-left : (call : Call) (ending : Ending) (status : ℕ) → status ≡ ending_status ending → EndsCall call ending → status ≡ 7 → FailsToWrite call
cut-left call ending status named ends seven =
    let cut = ended-as call ending CannotWrite status named seven ends in
    record { rose = cut-rose call cut; line = at-line call cut; sink = only-put-fails call cut; left = cut }

use Rattle.std.proofs.Common.{◌≡◌, List, ℕ, Ok, Err, ap, subst}
use Rattle.pcm_desk.specs.Device.{unfiltered}
use Rattle.pcm_script.specs.Answers.{ReadsScript}
use Rattle.pcm_script.specs.Lines.{script_read}
use Rattle.pcm_script.specs.declared.fault.ScriptFault.{ScriptFault}
use Rattle.pcm_verdict.specs.Faults.{BadScript}
use Rattle.pcm_verdict.specs.Verdict.{or_bad_script}
use Rattle.pcm_inputs.specs.Parts.{file_part, script_part}
use Rattle.pcm_inputs.proofs.Judgements.{script-begins, script-comes}
use Rattle.pcm_inputs.proofs.Parts.{ends-as}
use Rattle.pcm_inputs.proofs.Refusing.{err-as, script-refused, tells-behind}
use Rattle.pcm_inputs.proofs.reading.read_script.Goals as goal

-- the text could not be read
pub returns-in_err-text-clause-err : goal.returns-in_err-text-clause-err
returns-in_err-text-clause-err g c =
    err-as _ c.in_err-text.field-0.0 c.from_residual.result c.from_residual.ensures.1
    (ends-as (script_part c.args.config.now c.args.waves.now c.args.name.now) (file_part c.args.name.now) _ _ _
    (script-begins c.args.config.now c.args.waves.now c.args.name.now _) c.in_err-text.ensures.err)

-- the script is the one that the text is
pub returns-in-Ok-clause-ok : goal.returns-in-Ok-clause-ok
returns-in-Ok-clause-ok g c =
    let read = subst (λ (text : List ℕ). script_read (unfiltered c.args.config.now.device) c.args.waves.now text ≡ Ok c.in-Ok.script)
    c.deref.ensures.value c.in-Ok.ensures.read in
    record {
      came = script-comes c.args.config.now c.args.waves.now c.args.name.now c.in_ok-text.text.items _ _ c.in_ok-text.ensures.ok
          (ap or_bad_script read);
      only = c.in_ok-text.ensures.only;
    }

-- the refusal is the one that the text has
pub returns-in-Err-Refused-clause-err : goal.returns-in-Err-Refused-clause-err
returns-in-Err-Refused-clause-err g c =
    let only = c.in_ok-text.ensures.only in
    let read = script_read (unfiltered c.args.config.now.device) c.args.waves.now in
    let text = subst (λ (text : List ℕ). ReadsScript (Err c.in-Err-Refused.field-0) (read text)) c.deref.ensures.value
    c.in-Err-Refused.ensures.read in
    let refused = subst (λ (fault : ScriptFault). ReadsScript (Err fault) (read c.in_ok-text.text.items)) c.in-Err-Refused.field-0-is
    text in
    script-refused (script_part c.args.config.now c.args.waves.now c.args.name.now) c.in-Err-Refused.refusal _ _ _
    (script-comes c.args.config.now c.args.waves.now c.args.name.now c.in_ok-text.text.items _ _ c.in_ok-text.ensures.ok
    (ap or_bad_script refused))
    only.files (tells-behind (BadScript c.in-Err-Refused.refusal) _ _ _ _ only c.refuse.ensures)

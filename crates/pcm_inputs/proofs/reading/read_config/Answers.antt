use Rattle.std.proofs.Common.{◌≡◌, List, ℕ, Option, Some, Ok, Err, Bor, ap, option_map, subst}
use Rattle.pcm_config.specs.Answers.{Reads}
use Rattle.pcm_config.specs.Configs.{config_read}
use Rattle.pcm_config.specs.declared.fault.ConfigFault.{ConfigFault}
use Rattle.pcm_verdict.specs.Faults.{BadConfig}
use Rattle.pcm_verdict.specs.Verdict.{or_bad_config}
use Rattle.pcm_inputs.specs.Parts.{config_part, file_part}
use Rattle.pcm_inputs.proofs.Judgements.{config-begins, config-comes}
use Rattle.pcm_inputs.proofs.Parts.{ends-as}
use Rattle.pcm_inputs.proofs.Refusing.{config-refused, err-as, tells-behind}
use Rattle.pcm_inputs.proofs.reading.read_config.Goals as goal

-- a name of a configuration, by what is seen of it
named-as : (config : Option (Bor (List ℕ))) (name : Bor (List ℕ)) → config ≡ Some name
    → option_map (λ (n : Bor (List ℕ)). n.now) config ≡ Some name.now
named-as config name is = ap (option_map (λ (n : Bor (List ℕ)). n.now)) is

-- the text could not be read
pub returns-in_err-text-clause-err : goal.returns-in_err-text-clause-err
returns-in_err-text-clause-err g c =
    let named = named-as c.args.name c.in-Some.name c.in-Some.is in
    err-as _ c.in_err-text.field-0.0 c.from_residual.result c.from_residual.ensures.1
    (ends-as (config_part (option_map (λ (n : Bor (List ℕ)). n.now) c.args.name)) (file_part c.in-Some.name.now) _ _ _
    (config-begins _ c.in-Some.name.now _ named) c.in_err-text.ensures.err)

-- the configuration is the one that the text is
pub returns-in-Ok-clause-ok : goal.returns-in-Ok-clause-ok
returns-in-Ok-clause-ok g c =
    let named = named-as c.args.name c.in-Some.name c.in-Some.is in
    let read = subst (λ (text : List ℕ). config_read text ≡ Ok c.in-Ok.config) c.deref.ensures.value c.in-Ok.ensures.read in
    record {
      came = config-comes _ c.in-Some.name.now c.in_ok-text.text.items _ _ named c.in_ok-text.ensures.ok (ap or_bad_config read);
      only = c.in_ok-text.ensures.only;
    }

-- the refusal is the one that the text has
pub returns-in-Err-Refused-clause-err : goal.returns-in-Err-Refused-clause-err
returns-in-Err-Refused-clause-err g c =
    let named = named-as c.args.name c.in-Some.name c.in-Some.is in
    let only = c.in_ok-text.ensures.only in
    let text = subst (λ (text : List ℕ). Reads (Err c.in-Err-Refused.field-0) (config_read text)) c.deref.ensures.value
    c.in-Err-Refused.ensures.read in
    let refused = subst (λ (fault : ConfigFault). Reads (Err fault) (config_read c.in_ok-text.text.items)) c.in-Err-Refused.field-0-is
    text in
    config-refused (config_part (option_map (λ (n : Bor (List ℕ)). n.now) c.args.name)) c.in-Err-Refused.refusal _ _ _
    (config-comes _ c.in-Some.name.now c.in_ok-text.text.items _ _ named c.in_ok-text.ensures.ok (ap or_bad_config refused))
    only.files (tells-behind (BadConfig c.in-Err-Refused.refusal) _ _ _ _ only c.refuse.ensures)

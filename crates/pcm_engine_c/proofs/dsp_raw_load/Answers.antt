use Rattle.std.proofs.Common.{rules, ap, ◌∙◌, FitsSigned, w32}
use Rattle.std.proofs.lemmas.Int.{to_z-of_z}
use Rattle.pcm_engine_c.specs.declared.session.Session.{Session}
use Rattle.pcm_engine_c.proofs.Loading.{cause-moved, goes-moved, loaded, refused}
use Rattle.pcm_engine_c.proofs.dsp_raw_load.Goals as goal

pub returns-in-Ok : goal.returns-in-Ok
returns-in-Ok c =
    loaded _ _ c.in-Some.session.value c.in-Ok.loaded.value _ _ c.in-Some.ensures.value c.put.ensures
    (goes-moved _ _ c.args.bytes.now _ _ _ (ap (λ (session : Session). session.of.engine) c.deref.ensures) c.in-Ok.ensures.goes)

pub returns-in-Err : goal.returns-in-Err
returns-in-Err c =
    let fits : FitsSigned w32 c.load_fault_number.result = search rules in
    refused _ _ c.in-Some.session.value _ _ c.in-Err.fault _ c.in-Some.ensures.value c.put-in-Err.ensures
    (to_z-of_z w32 c.load_fault_number.result fits ∙ c.load_fault_number.ensures)
    (cause-moved _ _ c.args.bytes.now _ _ _ (ap (λ (session : Session). session.of.engine) c.deref.ensures) c.in-Err.ensures.cause)

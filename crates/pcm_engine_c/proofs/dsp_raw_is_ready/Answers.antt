use Rattle.std.proofs.Common.{rules, ap, ◌∙◌, FitsSigned, w32}
use Rattle.pcm_engine_c.specs.declared.session.Session.{Session}
use Rattle.std.proofs.lemmas.Int.{to_z-of_z}
use Rattle.pcm_engine.specs.Engines.{desk_of, device_of}
use Rattle.pcm_session.specs.Questions.{ready_told}
use Rattle.pcm_engine_c.specs.Told.{ready_number}
use Rattle.pcm_engine_c.proofs.Asking.{if-held}
use Rattle.pcm_engine_c.proofs.Readiness.{ready-moved}
use Rattle.pcm_engine_c.proofs.dsp_raw_is_ready.Goals as goal

pub ready-ready-requires : goal.ready-ready-requires
ready-ready-requires c = ready-moved _ _ _ c.in-Some.session.value.of.engine (ap (λ (session : Session). session.of.engine) c.deref.ensures)
    c.in-Some.ensures.ready

pub returns-clause-told : goal.returns-clause-told
returns-clause-told c =
    let fits : FitsSigned w32 c.ready_number.result = search rules in
    if-held _ c.in-Some.session.value _ c.in-Some.ensures.value
    (to_z-of_z w32 c.ready_number.result fits
    ∙ c.ready_number.ensures
    ∙ ap ready_number (c.ready-ready.ensures
    ∙ ap (λ (session : Session). ready_told (device_of session.of.engine) (desk_of session.of.engine) c.args.fd) c.deref.ensures))

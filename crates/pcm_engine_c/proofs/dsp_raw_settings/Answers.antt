use Rattle.std.proofs.Common.{rules, ap, ◌∙◌, FitsSigned, w32}
use Rattle.pcm_engine_c.specs.declared.session.Session.{Session}
use Rattle.pcm_engine.specs.Engines.{desk_of, device_of}
use Rattle.pcm_session.specs.Questions.{told_settings}
use Rattle.pcm_engine_c.proofs.Asking.{if-held, told-back}
use Rattle.pcm_engine_c.proofs.Readiness.{ready-moved}
use Rattle.pcm_engine_c.proofs.dsp_raw_settings.Goals as goal

pub settings-requires : goal.settings-requires
settings-requires c = ready-moved _ _ _ c.in-Some.session.value.of.engine (ap (λ (session : Session). session.of.engine) c.deref.ensures)
    c.in-Some.ensures.ready

pub returns-clause-told : goal.returns-clause-told
returns-clause-told c =
    let fits : FitsSigned w32 c.tell-number.result = search rules in
    if-held _ c.in-Some.session.value _ c.in-Some.ensures.value
    (told-back _ _ _ _ _ fits (c.settings.ensures
    ∙ ap (λ (session : Session). told_settings (device_of session.of.engine) (desk_of session.of.engine) c.args.fd) c.deref.ensures)
    c.tell-number.ensures)

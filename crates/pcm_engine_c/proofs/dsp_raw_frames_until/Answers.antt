use Rattle.std.proofs.Common.{rules, ap, ◌∙◌, subst, FitsSigned, w64}
use Rattle.std.proofs.lemmas.Int.{to_z-of_z}
use Rattle.pcm_engine_c.specs.declared.session.Session.{Session}
use Rattle.pcm_engine.specs.Engines.{desk_of, device_of}
use Rattle.pcm_session.specs.Questions.{WaitTold}
use Rattle.pcm_engine_c.proofs.Asking.{if-held}
use Rattle.pcm_engine_c.proofs.Readiness.{ready-moved}
use Rattle.pcm_engine_c.proofs.dsp_raw_frames_until.Goals as goal

pub frames_until-frames-requires : goal.frames_until-frames-requires
frames_until-frames-requires c = ready-moved _ _ _ c.in-Some.session.value.of.engine
    (ap (λ (session : Session). session.of.engine) c.deref.ensures) c.in-Some.ensures.ready

pub returns-clause-told : goal.returns-clause-told
returns-clause-told c =
    let fits : FitsSigned w64 c.wait_number.result = search rules in
    if-held _ c.in-Some.session.value _ c.in-Some.ensures.value
    (record {
      wait = c.frames_until-frames.result;
      is = subst (λ (session : Session). WaitTold (device_of session.of.engine) (desk_of session.of.engine) c.args.fd c.args.bytes
          c.frames_until-frames.result) c.deref.ensures c.frames_until-frames.ensures;
      number = to_z-of_z w64 c.wait_number.result fits ∙ c.wait_number.ensures;
    })

use Rattle.std.proofs.Common.{◌≡◌, Bool, true, false, cond, refl, ap, ◌∙◌, subst}
use Rattle.std.specs.Prelude.{IsErr, Result, Ok, Err}
use Rattle.pcm_engine.specs.Types.{Answer, Errno}
use Rattle.pcm_oss.specs.declared.reply.Errno.TheVariants.{Inval}
use Rattle.pcm_desk.specs.Device.{mixed_slots, unfiltered}
use Rattle.pcm_mixdev.specs.Mixers.{Levels, asked_mixer, may_ask, mixer_after, mixer_reply, told_mixer}
use Rattle.pcm_vchan.specs.Lending.{with_mixer}
use Rattle.pcm_engine.proofs.mixer_calls.ask_mixer.Goals as goal

-- a refused request leaves the levels
left : (b : Bool) (answer : Answer) (new old : Levels) → IsErr (cond {A = Result Answer Errno} b (Ok answer) (Err Inval))
    → cond b new old ≡ old
left true answer new old err = cc
left false answer new old err = refl

pub returns-clause-refused : goal.returns-clause-refused
returns-clause-refused g c = λ err.
    let old = c.args.parent.now in
    let slots = mixed_slots (unfiltered old.device) in
    let request = c.args.request in
    let here = c.mixer.ensures.value in
    let refused = subst IsErr (c.ask.ensures.answer ∙ ap (mixer_reply slots request) here) err in
    let same : c.ask.new.self ≡ old.mixer =
    c.ask.ensures.mixer ∙ ap (mixer_after slots request) here
    ∙ left (may_ask slots request) (told_mixer request old.mixer) (asked_mixer request old.mixer) old.mixer refused in
    ap (with_mixer old) same

use Rattle.std.proofs.Common.{Bool, ap, ◌∙◌}
use Rattle.pcm_desk.specs.declared.trigger.TheConstants.{PLAY_BIT}
use Rattle.pcm_desk.specs.Openings as openings
use Rattle.pcm_desk.specs.PlayRequests.{play_with_opening}
use Rattle.pcm_desk.proofs.PlayAsking.{asks-common}
use Rattle.pcm_desk.proofs.play_book.PlayBook.asked.Goals as goal

pub returns-in_default : goal.returns-in_default
returns-in_default c =
    let d = c.in_default in
    let opened = c.asked.ensures ∙ ap (λ (setup : Bool). openings.ask setup PLAY_BIT c.args.request c.args.self.opening)
    c.is_setup.ensures in
    c.with_opening-in_default.ensures
    ∙ ap (play_with_opening c.args.self) opened
    ∙ asks-common c.args.rate c.args.mix_rate c.args.here c.args.request c.args.self d.not-GetOSpace d.not-GetOPtr d.not-GetODelay
    d.not-GetError d.not-SetTrigger d.not-SetPlayVol d.not-GetPlayVol d.not-Post d.not-Sync d.not-Halt

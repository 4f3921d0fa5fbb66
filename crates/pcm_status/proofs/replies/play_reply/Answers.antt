use Rattle.std.proofs.Common.{rules, ap, arith, ◌∙◌}
use Rattle.std.proofs.lemmas.Grind.{common_steps}
use Rattle.pcm_rate.specs.declared.rate.Rate.{Rate}
use Rattle.pcm_desk.specs.declared.device.Device.{Device}
use Rattle.pcm_desk.specs.declared.here.Here.{Here}
use Rattle.pcm_desk.specs.declared.play_book.PlayBook.{PlayBook}
use Rattle.pcm_desk.specs.declared.turn.Turn.{Turn}
use Rattle.pcm_desk.specs.Device.{mix_settings}
use Rattle.pcm_desk.specs.Channels.{play_rate_at}
use Rattle.pcm_desk.specs.Desk.{desk_here, play_at}
use Rattle.pcm_desk.specs.PlayRequests.{play_ask}
use Rattle.pcm_engine.specs.Engines.{desk_of, device_of}
use Rattle.pcm_status.proofs.replies.play_reply.Goals as goal

pub asked-requires-clause-delay : goal.asked-requires-clause-delay
asked-requires-clause-delay g c = record
    { ratio = search rules; client = search rules; mix = search rules; place = search rules; at = grind (arith, common_steps) }

pub returns : goal.returns
returns g c =
    let device = device_of c.args.engine.now in
    let desk = desk_of c.args.engine.now in
    let request = c.args.request in
    let there = play_rate_at device (play_at device desk c.args.slot) in
    let mix = (mix_settings device).rate in
    ap (λ (turn : Turn PlayBook). turn.reply) c.asked.ensures
    ∙ ap (λ (d : Device). (play_ask c.play_rate-rate.result d.mix.rate c.here-here.result request c.play_book.result).reply)
    c.device.ensures
    ∙ ap (λ (rate : Rate). (play_ask rate mix c.here-here.result request c.play_book.result).reply) c.play_rate-rate.ensures.is
    ∙ ap (λ (here : Here). (play_ask there mix here request c.play_book.result).reply) c.here-here.ensures.is
    ∙ ap (λ (book : PlayBook). (play_ask there mix (desk_here device desk) request book).reply) c.play_book.ensures.is

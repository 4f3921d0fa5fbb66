use Rattle.std.proofs.Common.{◌≡◌, ◌+◌, ◌^◌, ◌<◌, length, sym, ap, ◌∙◌, subst, arith}
use Rattle.pcm_sequence.proofs.Items.{items-count}
use Rattle.pcm_oss.specs.declared.event.Event.TheVariants.{Write}
use Rattle.pcm_oss.specs.declared.event.Way.TheVariants.{Play}
use Rattle.pcm_oss.specs.Replies.{bytes_due}
use Rattle.pcm_wave.specs.declared.pool.Source.TheVariants.{Inline}
use Rattle.pcm_engine.specs.Types.{Here, PlayBook, Turn}
use Rattle.pcm_desk.specs.Device.{seen}
use Rattle.pcm_desk.specs.PlayBooks.{write_turn}
use Rattle.pcm_desk.specs.Desk.{channel_turn, desk_here, held_by}
use Rattle.pcm_desk.proofs.Silent.{write-silent}
use Rattle.pcm_play.specs.declared.channel.PlayChannelOf.{PlayChannelOf}
use Rattle.pcm_engine.specs.Desks.{desk_with, turn_on}
use Rattle.pcm_engine.proofs.Turning.{play-there, slot-is, write-refused}
use Rattle.pcm_engine.proofs.Answering.{answers-refusal, own-served, takes-played}
use Rattle.pcm_engine.proofs.Grouping.{handed-on}
use Rattle.pcm_engine.proofs.clients.write.Goals as goal

pub play-requires : goal.play-requires
play-requires g c =
    let parent = c.args.parent.now in
    let e = slot-is Play (held_by (desk_with parent c.args.descriptors.now) c.args.fd) c.in_ok-slot.slot
    (sym c.slot_of.ensures ∙ c.in_ok-slot.was) in
    let there = play-there parent c.args.descriptors.now c.args.fd c.in_ok-slot.slot c.requires.called.asks.able.apart e in
    omega (arith, there, items-count parent.channels)

pub write-requires : goal.write-requires
write-requires g c =
    let parent = c.args.parent.now in
    let slot = c.in_ok-slot.slot in
    let able = c.requires.called.asks.able in
    let e = slot-is Play (held_by (desk_with parent c.args.descriptors.now) c.args.fd) slot (sym c.slot_of.ensures ∙ c.in_ok-slot.was) in
    let counted = subst (λ (channel : PlayChannelOf _). channel.book.done + channel.book.written < 2 ^ 63) (sym c.play.ensures.value)
    (able.count slot c.play.result.now (play-there parent c.args.descriptors.now c.args.fd slot able.apart e)) in
    record { count = omega (arith, counted) }

pub returns : goal.returns
returns g c = λ filters asks.
    let parent = c.args.parent.now in
    let device = seen filters parent.device in
    let desk = desk_with parent c.args.descriptors.now in
    let count = length c.args.bytes.now in
    let slot = c.in_ok-slot.slot in
    let e = slot-is Play (held_by desk c.args.fd) slot (sym c.slot_of.ensures ∙ c.in_ok-slot.was) in
    let lent = c.play.result.now in
    let wrote = c.write.ensures in
    let same : write_turn c.args.here count lent.book ≡ write_turn (desk_here device desk) count lent.book = ap
    (λ (here : Here). write_turn here count lent.book) asks.able.at in
    record {
      silent = ap bytes_due wrote.reply ∙ write-silent c.args.here count lent.book;
      takes = takes-played g.B.Feeder.kind g.B.Feeder.kept filters (turn_on (Write c.args.fd Inline 0 count)) parent c.args.descriptors.now
          c.args.bytes.now (write_turn (desk_here device desk) count) slot lent c.write.new.self c.write.result
          (own-served asks.able.served) (play-there parent c.args.descriptors.now c.args.fd slot asks.able.apart e) c.play.ensures.value
          (ap (channel_turn device desk (Write c.args.fd Inline 0 count)) e)
          (wrote.book ∙ ap (λ (t : Turn PlayBook). t.book) same) (wrote.reply ∙ ap (λ (t : Turn PlayBook). t.reply) same) wrote.device
          (wrote.moves filters) wrote.refused;
    }

pub returns-in_err-slot : goal.returns-in_err-slot
returns-in_err-slot g c = λ filters asks.
    let desk = desk_with c.args.parent.now c.args.descriptors.now in
    let n = length c.args.bytes.now in
    let errno = c.in_err-slot.field-0.0 in
    answers-refusal g.B.Feeder.kind g.B.Feeder.kept filters (turn_on (Write c.args.fd Inline 0 n)) c.args.parent.now c.args.descriptors.now
    c.args.bytes.now _ errno (own-served asks.able.served)
    (write-refused (seen filters c.args.parent.now.device) desk c.args.fd Inline 0 n (held_by desk c.args.fd) errno
    (sym c.slot_of.ensures ∙ c.in_err-slot.was))
    (handed-on c.from_residual.result errno c.from_residual.ensures.0 c.from_residual.ensures.1)

use Rattle.std.proofs.Common.{rules, [], length, take, drop, refl, sym, ap, ◌∙◌, subst, arith}
use Rattle.pcm_sequence.proofs.Items.{items-count}
use Rattle.pcm_oss.specs.declared.event.Event.TheVariants.{Read}
use Rattle.pcm_oss.specs.declared.event.Way.TheVariants.{Record}
use Rattle.pcm_oss.specs.Replies.{bytes_due}
use Rattle.pcm_desk.specs.Device.{seen}
use Rattle.pcm_desk.specs.RecordBooks.{read_turn}
use Rattle.pcm_desk.specs.Desk.{channel_turn, held_by, record_unopened}
use Rattle.pcm_desk.proofs.Silent.{read-due}
use Rattle.pcm_record.specs.declared.channel.RecordChannelOf.{RecordChannelOf}
use Rattle.pcm_record.specs.Channels.{HoldsUnread}
use Rattle.pcm_vchan.specs.Parents.{record_channels}
use Rattle.pcm_vchan.proofs.Channels.{record_at-channel}
use Rattle.pcm_engine.specs.Desks.{desk_with, turn_on}
use Rattle.pcm_engine.proofs.Turning.{bytes_read-held, channel_of, read-refused, record-there, slot-is}
use Rattle.pcm_engine.proofs.Answering.{answers-refusal, takes-recorded}
use Rattle.pcm_engine.proofs.Grouping.{handed-on}
use Rattle.pcm_engine.proofs.clients.read.Goals as goal

pub recorder-requires : goal.recorder-requires
recorder-requires g c =
    let parent = c.args.parent.now in
    let e = slot-is Record (held_by (desk_with parent c.args.descriptors.now) c.args.fd) c.in_ok-slot.slot
    (sym c.slot_of.ensures ∙ c.in_ok-slot.was) in
    let there = record-there parent c.args.descriptors.now c.args.fd c.in_ok-slot.slot c.requires.apart e in
    omega (arith, there, items-count parent.recorders)

pub returns : goal.returns
returns g c =
    let parent = c.args.parent.now in
    let desk = desk_with parent c.args.descriptors.now in
    let n = length c.args.out.now in
    let slot = c.in_ok-slot.slot in
    let e = slot-is Record (held_by desk c.args.fd) slot (sym c.slot_of.ensures ∙ c.in_ok-slot.was) in
    let there = record-there parent c.args.descriptors.now c.args.fd slot c.requires.apart e in
    let lent = c.recorder.result.now in
    let is = c.recorder.ensures.value in
    let got = c.read.ensures in
    record {
      takes = λ filters.
          takes-recorded g.B.Feeder.kind g.B.Feeder.kept filters (turn_on (Read c.args.fd n)) parent c.args.descriptors.now (read_turn n)
          slot lent c.read.new.self c.read.result
          c.requires.own there is (ap (channel_turn (seen filters parent.device) desk (Read c.args.fd n)) e) got.book got.reply got.device
          (got.moves filters) got.refused;
      within = search rules;
      length = search rules;
      bytes = λ filters bytes stand.
          let book = record_at-channel (record_channels parent) slot lent (record_unopened (seen filters parent.device)) there is in
          let holds = subst (λ (channel : RecordChannelOf _). HoldsUnread channel (bytes slot)) (sym is) (stand slot lent there) in
          got.bytes (bytes slot) holds
          ∙ ap (λ k. take k (drop lent.book.read (bytes slot))) (ap bytes_due got.reply ∙ read-due n lent.book)
          ∙ sym (bytes_read-held (seen filters parent.device) desk bytes n (held_by desk c.args.fd) (channel_of Record slot) lent.book e
          refl book);
    }

pub returns-in_err-slot-clause-takes : goal.returns-in_err-slot-clause-takes
returns-in_err-slot-clause-takes g c = λ filters.
    let desk = desk_with c.args.parent.now c.args.descriptors.now in
    let n = length c.args.out.now in
    let errno = c.in_err-slot.field-0.0 in
    (answers-refusal g.B.Feeder.kind g.B.Feeder.kept filters (turn_on (Read c.args.fd n)) c.args.parent.now c.args.descriptors.now [] _
    errno c.requires.own
    (read-refused (seen filters c.args.parent.now.device) desk c.args.fd n (held_by desk c.args.fd) errno
    (sym c.slot_of.ensures ∙ c.in_err-slot.was))
    (handed-on c.from_residual.result errno c.from_residual.ensures.0 c.from_residual.ensures.1)).takes

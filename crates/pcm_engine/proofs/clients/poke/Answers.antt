use Rattle.std.proofs.Common.{[], length, refl, sym, ap, ◌∙◌, arith}
use Rattle.pcm_sequence.proofs.Items.{items-count}
use Rattle.pcm_oss.specs.declared.event.Event.TheVariants.{Poke}
use Rattle.pcm_oss.specs.declared.event.Way.TheVariants.{Map}
use Rattle.pcm_oss.specs.Replies.{bytes_due}
use Rattle.pcm_desk.specs.Device.{seen}
use Rattle.pcm_desk.specs.MapBooks.{poke_turn}
use Rattle.pcm_desk.specs.Desk.{channel_turn, held_by}
use Rattle.pcm_desk.proofs.Refused.{poke-kept}
use Rattle.pcm_desk.proofs.Silent.{poke-silent}
use Rattle.pcm_vchan.specs.Parents.{map_channels}
use Rattle.pcm_engine.specs.Desks.{desk_with, turn_on}
use Rattle.pcm_engine.proofs.Mapped.{each-poked, each-unpoked, poked_in}
use Rattle.pcm_engine.proofs.Turning.{map-there, poke-refused, slot-is, unmapped}
use Rattle.pcm_engine.proofs.Answering.{leaves-mapping, leaves-written, output-same, own-served, takes-mapped, takes-refusal}
use Rattle.pcm_engine.proofs.Grouping.{handed-on}
use Rattle.pcm_engine.proofs.clients.poke.Goals as goal

pub mapped-requires : goal.mapped-requires
mapped-requires g c =
    let parent = c.args.parent.now in
    let e = slot-is Map (held_by (desk_with parent c.args.descriptors.now) c.args.fd) c.in_ok-slot.slot
    (sym c.slot_of.ensures ∙ c.in_ok-slot.was) in
    let there = map-there parent c.args.descriptors.now c.args.fd c.in_ok-slot.slot c.requires.called.asks.able.apart e in
    omega (arith, there, items-count parent.maps)

pub returns : goal.returns
returns g c = λ filters.
    let parent = c.args.parent.now in
    let desk = desk_with parent c.args.descriptors.now in
    let count = length c.args.bytes.now in
    let slot = c.in_ok-slot.slot in
    let able = c.requires.called.asks.able in
    let e = slot-is Map (held_by desk c.args.fd) slot (sym c.slot_of.ensures ∙ c.in_ok-slot.was) in
    let there = map-there parent c.args.descriptors.now c.args.fd slot able.apart e in
    let lent = c.mapped.result.now in
    let is = c.mapped.ensures.value in
    let own = own-served able.served in
    let poked = c.poke.ensures in
    record {
      silent = ap bytes_due poked.reply ∙ poke-silent c.args.offset count lent.book;
      takes = takes-mapped g.B.Feeder.kind g.B.Feeder.kept filters (turn_on (Poke c.args.fd c.args.offset 0 count)) parent
          c.args.descriptors.now (poked_in (held_by desk c.args.fd) c.args.offset c.args.bytes.now) (poke_turn c.args.offset count) slot
          lent c.poke.new.self c.poke.result
          own there is (ap (channel_turn (seen filters parent.device) desk (Poke c.args.fd c.args.offset 0 count)) e) poked.book poked.reply
          (leaves-written g.B.Feeder.kind g.B.Feeder.kept filters _ parent slot lent c.poke.new.self own there is poked.device
          (each-poked g.B.Feeder.kind g.B.Feeder.kept filters (held_by desk c.args.fd) c.args.offset c.args.bytes.now (map_channels parent)
          slot lent c.poke.new.self e there is
          (poked.book ∙ poke-kept c.args.offset count lent.book) poked.area (poked.moves filters))) poked.refused;
    }

pub returns-in_err-slot : goal.returns-in_err-slot
returns-in_err-slot g c = λ filters.
    let parent = c.args.parent.now in
    let desk = desk_with parent c.args.descriptors.now in
    let found = held_by desk c.args.fd in
    let n = length c.args.bytes.now in
    let errno = c.in_err-slot.field-0.0 in
    let own = own-served c.requires.called.asks.able.served in
    let was = sym c.slot_of.ensures ∙ c.in_err-slot.was in
    let is = handed-on c.from_residual.result errno c.from_residual.ensures.0 c.from_residual.ensures.1 in
    let leaves = leaves-mapping g.B.Feeder.kind g.B.Feeder.kept filters _ parent parent own (output-same parent) refl refl own.mapped
    (each-unpoked g.B.Feeder.kind g.B.Feeder.kept filters found c.args.offset c.args.bytes.now (map_channels parent)
    (unmapped found errno was)) in
    record {
      silent = ap bytes_due is;
      takes = takes-refusal g.B.Feeder.kind g.B.Feeder.kept filters (turn_on (Poke c.args.fd c.args.offset 0 n)) parent
          c.args.descriptors.now [] _ _ errno leaves
          (poke-refused (seen filters parent.device) desk c.args.fd c.args.offset 0 n found errno was) is;
    }

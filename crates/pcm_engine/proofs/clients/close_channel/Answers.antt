use Rattle.std.proofs.Common.{rules, refl, ◌+◌, ◌^◌, ◌<◌, [], length, Ok, sym, ap, ◌∙◌, subst, arith}
use Rattle.pcm_sequence.proofs.Items.{items-count}
use Rattle.pcm_engine.specs.Types.{Device, Here, MapBook, PlayBook, RecordBook, Way}
use Rattle.pcm_desk.specs.Device.{seen}
use Rattle.pcm_desk.specs.MapBooks.{map_closed}
use Rattle.pcm_desk.specs.RecordBooks.{closed}
use Rattle.pcm_oss.specs.declared.reply.Answer.TheVariants.{Done}
use Rattle.pcm_desk.specs.Channels.{closing}
use Rattle.pcm_desk.specs.Desk.{Desk, desk_here}
use Rattle.pcm_play.specs.declared.channel.PlayChannelOf.{PlayChannelOf}
use Rattle.pcm_play.specs.Channels.{IsPlayReady, IsPlayServed}
use Rattle.pcm_record.specs.Channels.{IsRecordReady}
use Rattle.pcm_map.specs.Channels.{IsMapReady}
use Rattle.pcm_vchan.specs.Parents.{map_channels, play_channels, record_channels}
use Rattle.pcm_engine.specs.Desks.{closed_held, desk_with}
use Rattle.pcm_engine.proofs.Answering.{leaves-mapped, leaves-played, leaves-recorded, own-served}
use Rattle.pcm_engine.proofs.Mapped.{keeps-closed}
use Rattle.pcm_engine.proofs.Turning.{channel_of, own-lent, turn-mapped, turn-played, turn-recorded}
use Rattle.pcm_engine.proofs.clients.close_channel.Goals as goal

pub close-requires : goal.close-requires
close-requires g c =
    let parent = c.args.parent.now in
    let slot = c.args.held.slot in
    let lent = c.play.result.now in
    let is = sym c.play.ensures.value in
    let below = c.requires.there.play c.in-Play.is in
    let there : slot < length (play_channels parent) = omega (arith, below, items-count parent.channels) in
    let ready = subst (IsPlayReady g.B.Feeder.kind g.B.Feeder.kept c.requires.served.filters) is
    (c.requires.served.served.ready slot lent there) in
    let counted = subst (λ (channel : PlayChannelOf _). channel.book.done + channel.book.written < 2 ^ 63) is
    (c.requires.served.count slot lent there) in
    record { kinds = ready.kinds; counted = omega (arith, counted) }

pub close-requires-in-Record : goal.close-requires-in-Record
close-requires-in-Record g c =
    let parent = c.args.parent.now in
    let served = c.requires.served in
    let below = c.requires.there.recording c.in-Record.is in
    let ready = served.served.recorders_ready c.args.held.slot c.recorder.result.now (omega (arith, below, items-count parent.recorders)) in
    record { kinds = (subst (IsRecordReady g.B.Feeder.kind g.B.Feeder.kept served.filters) (sym c.recorder.ensures.value) ready).kinds }

pub close-requires-in-Map : goal.close-requires-in-Map
close-requires-in-Map g c =
    let parent = c.args.parent.now in
    let served = c.requires.served in
    let below = c.requires.there.mapped c.in-Map.is in
    let ready = served.served.maps_ready c.args.held.slot c.mapped.result.now (omega (arith, below, items-count parent.maps)) in
    record { kinds = (subst (IsMapReady g.B.Feeder.kind g.B.Feeder.kept served.filters) (sym c.mapped.ensures.value) ready).kinds }

pub returns-in-Play : goal.returns-in-Play
returns-in-Play g c =
    let parent = c.args.parent.now in
    let slot = c.args.held.slot in
    let below = c.requires.there.play c.in-Play.is in
    let there : slot < length (play_channels parent) = omega (arith, below, items-count parent.channels) in
    let lent = c.play.result.now in
    let new = c.close.new.self in
    let is = c.play.ensures.value in
    record {
      answer = search rules;
      leaves = λ filters. leaves-played g.B.Feeder.kind g.B.Feeder.kept filters [] parent slot lent new
          (own-served c.requires.served.served) there is c.close.ensures.device (c.close.ensures.moves filters);
      desk = λ filters descriptors ready at.
          let device = seen filters parent.device in
          let own = own-lent parent.device (play_channels parent) slot lent there is c.requires.served.served.own in
          let desk : Desk = desk_with parent descriptors in
          (turn-played device (λ (book : PlayBook). record { book = closing device (desk_here device desk) book; reply = Ok Done }) parent
          descriptors slot lent new (Ok Done) there is
          (c.close.ensures.book filters (subst (IsPlayServed filters) (sym is) (ready slot lent there).planned)
          ∙ ap (λ (d : Device). closing (seen filters d) c.args.here lent.book) own
          ∙ ap (λ (here : Here). closing device here lent.book) at) refl).0
          ∙ sym (ap (λ (w : Way). closed_held device desk (channel_of w slot)) c.in-Play.is);
    }

pub returns-in-Record : goal.returns-in-Record
returns-in-Record g c =
    let parent = c.args.parent.now in
    let slot = c.args.held.slot in
    let below = c.requires.there.recording c.in-Record.is in
    let there : slot < length (record_channels parent) = omega (arith, below, items-count parent.recorders) in
    let lent = c.recorder.result.now in
    let closes = c.close-in-Record.ensures in
    let new = c.close-in-Record.new.self in
    let is = c.recorder.ensures.value in
    record {
      answer = search rules;
      leaves = λ filters. leaves-recorded g.B.Feeder.kind g.B.Feeder.kept filters parent slot lent new (own-served c.requires.served.served)
          there is closes.device (closes.moves filters);
      desk = λ filters descriptors ready at.
          let device = seen filters parent.device in
          (turn-recorded device (λ (book : RecordBook). record { book = closed book; reply = Ok Done }) parent descriptors slot lent new
          (Ok Done) there is closes.book refl).0
          ∙ sym (ap (λ (w : Way). closed_held device (desk_with parent descriptors) (channel_of w slot)) c.in-Record.is);
    }

pub returns-in-Map : goal.returns-in-Map
returns-in-Map g c =
    let parent = c.args.parent.now in
    let slot = c.args.held.slot in
    let below = c.requires.there.mapped c.in-Map.is in
    let there : slot < length (map_channels parent) = omega (arith, below, items-count parent.maps) in
    let lent = c.mapped.result.now in
    let closes = c.close-in-Map.ensures in
    let new = c.close-in-Map.new.self in
    let is = c.mapped.ensures.value in
    record {
      answer = search rules;
      leaves = λ filters.
          leaves-mapped g.B.Feeder.kind g.B.Feeder.kept filters parent slot lent new (own-served c.requires.served.served) there is
          closes.device
          (keeps-closed g.B.Feeder.kind g.B.Feeder.kept filters 0 lent new closes.book closes.area (closes.moves filters));
      desk = λ filters descriptors ready at.
          let device = seen filters parent.device in
          (turn-mapped device (λ (book : MapBook). record { book = map_closed book; reply = Ok Done }) parent descriptors slot lent new
          (Ok Done) there is closes.book refl).0
          ∙ sym (ap (λ (w : Way). closed_held device (desk_with parent descriptors) (channel_of w slot)) c.in-Map.is);
    }

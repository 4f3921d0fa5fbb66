use Rattle.std.proofs.Common.{◌≡◌, ◌+◌, ◌^◌, ◌<◌, [], sym, ap, ◌∙◌, subst, arith}
use Rattle.pcm_oss.specs.declared.event.Way.TheVariants.{Play, Record, Map}
use Rattle.pcm_oss.specs.Replies.{bytes_due}
use Rattle.pcm_engine.specs.Types.{Device, Here, PlayBook, Turn}
use Rattle.pcm_desk.specs.Device.{seen}
use Rattle.pcm_desk.specs.MapBooks.{taken_of}
use Rattle.pcm_desk.specs.MapRequests.{map_ask}
use Rattle.pcm_desk.specs.RecordRequests.{record_ask}
use Rattle.pcm_desk.specs.Channels.{asking, play_rate_at}
use Rattle.pcm_desk.specs.Desk.{desk_here, held_by}
use Rattle.pcm_desk.proofs.Silent.{ask-silent, map-asked-silent, record-ask-silent}
use Rattle.pcm_play.specs.declared.channel.PlayChannelOf.{PlayChannelOf}
use Rattle.pcm_play.specs.Channels.{IsPlayHere, IsPlayReady}
use Rattle.pcm_record.specs.Channels.{IsRecordReady}
use Rattle.pcm_map.specs.declared.channel.MapChannelOf.{MapChannelOf}
use Rattle.pcm_map.specs.Channels.{IsMapReady}
use Rattle.pcm_vchan.specs.Parents.{play_channels, untouched}
use Rattle.pcm_engine.specs.Desks.{channel_asked, desk_with, ioctl_call}
use Rattle.pcm_engine.proofs.Mapped.{keeps-asked}
use Rattle.pcm_engine.proofs.Answering.{answers-refusal, leaves-mapped, own-served, takes-mapped, takes-played, takes-recorded}
use Rattle.pcm_engine.proofs.Grouping.{handed-on}
use Rattle.pcm_engine.proofs.Turning.{ask-not, held-as, map-there, map-unfree, open-there, own-lent, play-there, record-there}
use Rattle.pcm_engine.proofs.clients.ask.Goals as goal

pub returns-in_err-held : goal.returns-in_err-held
returns-in_err-held g c =
    let desk = desk_with c.args.parent.now c.args.descriptors.now in
    let errno = c.in_err-held.field-0.0 in
    answers-refusal g.B.Feeder.kind g.B.Feeder.kept c.args.tables.now (ioctl_call c.args.fd c.args.request) c.args.parent.now
    c.args.descriptors.now [] _ errno (own-served c.requires.asks.able.served)
    (ask-not (seen c.args.tables.now c.args.parent.now.device) desk c.args.request (held_by desk c.args.fd) errno
    (sym c.holding.ensures ∙ c.in_err-held.was))
    (handed-on c.from_residual.result errno c.from_residual.ensures.0 c.from_residual.ensures.1)

pub play-requires : goal.play-requires
play-requires g c = (open-there c.args.parent.now c.args.descriptors.now c.args.fd c.in_ok-held.held c.requires.asks.able.apart
    (sym c.holding.ensures ∙ c.in_ok-held.was)).play c.in-Play.is

pub recorder-requires : goal.recorder-requires
recorder-requires g c = (open-there c.args.parent.now c.args.descriptors.now c.args.fd c.in_ok-held.held c.requires.asks.able.apart
    (sym c.holding.ensures ∙ c.in_ok-held.was)).recording c.in-Record.is

pub mapped-requires : goal.mapped-requires
mapped-requires g c = (open-there c.args.parent.now c.args.descriptors.now c.args.fd c.in_ok-held.held c.requires.asks.able.apart
    (sym c.holding.ensures ∙ c.in_ok-held.was)).mapped c.in-Map.is

pub ioctl-requires : goal.ioctl-requires
ioctl-requires g c =
    let parent = c.args.parent.now in
    let able = c.requires.asks.able in
    let slot = c.in_ok-held.held.slot in
    let lent = c.play.result.now in
    let is = sym c.play.ensures.value in
    let e = held-as Play (held_by (desk_with parent c.args.descriptors.now) c.args.fd) c.in_ok-held.held
    (sym c.holding.ensures ∙ c.in_ok-held.was) c.in-Play.is in
    let there = play-there parent c.args.descriptors.now c.args.fd slot able.apart e in
    let ready = subst (IsPlayReady g.B.Feeder.kind g.B.Feeder.kept c.args.tables.now) is (able.served.ready slot lent there) in
    let counted = subst (λ (channel : PlayChannelOf _). channel.book.done + channel.book.written < 2 ^ 63) is
    (able.count slot lent there) in
    record {
      kinds = ready.kinds;
      planned = ready.planned;
      here = able.here;
      at = subst (IsPlayHere c.args.tables.now c.args.here) is
          (able.places slot lent there);
      count = omega (arith, counted);
    }

pub ioctl-requires-in-Record : goal.ioctl-requires-in-Record
ioctl-requires-in-Record g c =
    let parent = c.args.parent.now in
    let able = c.requires.asks.able in
    let slot = c.in_ok-held.held.slot in
    let e = held-as Record (held_by (desk_with parent c.args.descriptors.now) c.args.fd) c.in_ok-held.held
    (sym c.holding.ensures ∙ c.in_ok-held.was) c.in-Record.is in
    let there = record-there parent c.args.descriptors.now c.args.fd slot able.apart e in
    let ready = subst (IsRecordReady g.B.Feeder.kind g.B.Feeder.kept c.args.tables.now) (sym c.recorder.ensures.value)
    (able.served.recorders_ready slot c.recorder.result.now there) in
    record { kinds = ready.kinds; planned = ready.planned }

pub ioctl-requires-in-Map : goal.ioctl-requires-in-Map
ioctl-requires-in-Map g c =
    let parent = c.args.parent.now in
    let able = c.requires.asks.able in
    let slot = c.in_ok-held.held.slot in
    let is = sym c.mapped.ensures.value in
    let e = held-as Map (held_by (desk_with parent c.args.descriptors.now) c.args.fd) c.in_ok-held.held
    (sym c.holding.ensures ∙ c.in_ok-held.was) c.in-Map.is in
    let there = map-there parent c.args.descriptors.now c.args.fd slot able.apart e in
    let ready = subst (IsMapReady g.B.Feeder.kind g.B.Feeder.kept c.args.tables.now) is
    (able.served.maps_ready slot c.mapped.result.now there) in
    record {
      kinds = ready.kinds;
      planned = ready.planned;
      count = subst (λ (channel : MapChannelOf _). taken_of channel.book < 2 ^ 64) is
          (able.taken slot c.mapped.result.now there);
    }

pub returns-in-Play : goal.returns-in-Play
returns-in-Play g c =
    let parent = c.args.parent.now in
    let tables = c.args.tables.now in
    let device = seen tables parent.device in
    let desk = desk_with parent c.args.descriptors.now in
    let able = c.requires.asks.able in
    let slot = c.in_ok-held.held.slot in
    let e = held-as Play (held_by desk c.args.fd) c.in_ok-held.held (sym c.holding.ensures ∙ c.in_ok-held.was) c.in-Play.is in
    let there = play-there parent c.args.descriptors.now c.args.fd slot able.apart e in
    let lent = c.play.result.now in
    let is = c.play.ensures.value in
    let same : asking (seen tables lent.path.device) c.args.here c.args.request lent.book ≡ asking device (desk_here device desk)
    c.args.request lent.book =
    ap (λ (d : Device). asking (seen tables d) c.args.here c.args.request lent.book)
    (own-lent parent.device (play_channels parent) slot lent there is able.served.own)
    ∙ ap (λ (here : Here). asking device here c.args.request lent.book) able.at in
    record {
      silent = ap bytes_due c.ioctl.ensures.reply
          ∙ ask-silent (play_rate_at (seen tables lent.path.device) lent.book) lent.path.device.mix.rate c.args.here c.args.request
          lent.book;
      takes = takes-played g.B.Feeder.kind g.B.Feeder.kept tables (ioctl_call c.args.fd c.args.request) parent c.args.descriptors.now []
          (asking device (desk_here device desk) c.args.request) slot lent c.ioctl.new.self c.ioctl.result
          (own-served able.served) there is (ap (channel_asked device desk c.args.request) e)
          (c.ioctl.ensures.book ∙ ap (λ (t : Turn PlayBook). t.book) same)
          (c.ioctl.ensures.reply ∙ ap (λ (t : Turn PlayBook). t.reply) same)
          c.ioctl.ensures.device c.ioctl.ensures.moves c.ioctl.ensures.refused;
    }

pub returns-in-Record : goal.returns-in-Record
returns-in-Record g c =
    let parent = c.args.parent.now in
    let desk = desk_with parent c.args.descriptors.now in
    let able = c.requires.asks.able in
    let slot = c.in_ok-held.held.slot in
    let e = held-as Record (held_by desk c.args.fd) c.in_ok-held.held (sym c.holding.ensures ∙ c.in_ok-held.was) c.in-Record.is in
    let there = record-there parent c.args.descriptors.now c.args.fd slot able.apart e in
    let asked = c.ioctl-in-Record.ensures in
    record {
      silent = ap bytes_due asked.reply ∙ record-ask-silent c.args.request c.recorder.result.now.book;
      takes = takes-recorded g.B.Feeder.kind g.B.Feeder.kept c.args.tables.now (ioctl_call c.args.fd c.args.request) parent
          c.args.descriptors.now (record_ask c.args.request) slot c.recorder.result.now c.ioctl-in-Record.new.self c.ioctl-in-Record.result
          (own-served able.served) there c.recorder.ensures.value
          (ap (channel_asked (seen c.args.tables.now parent.device) desk c.args.request) e) asked.book asked.reply asked.device
          asked.moves asked.refused;
    }

pub returns-in-Map : goal.returns-in-Map
returns-in-Map g c =
    let parent = c.args.parent.now in
    let tables = c.args.tables.now in
    let device = seen tables parent.device in
    let desk = desk_with parent c.args.descriptors.now in
    let able = c.requires.asks.able in
    let slot = c.in_ok-held.held.slot in
    let e = held-as Map (held_by desk c.args.fd) c.in_ok-held.held (sym c.holding.ensures ∙ c.in_ok-held.was) c.in-Map.is in
    let there = map-there parent c.args.descriptors.now c.args.fd slot able.apart e in
    let lent = c.mapped.result.now in
    let is = c.mapped.ensures.value in
    let asked = c.ioctl-in-Map.ensures in
    let new = c.ioctl-in-Map.new.self in
    let own = own-served able.served in
    let unfree = map-unfree device parent c.args.descriptors.now c.args.fd slot lent able.apart e there is in
    record {
      silent = ap bytes_due asked.reply ∙ map-asked-silent c.args.request lent.book;
      takes = takes-mapped g.B.Feeder.kind g.B.Feeder.kept tables (ioctl_call c.args.fd c.args.request) parent c.args.descriptors.now
          untouched (map_ask c.args.request) slot lent new c.ioctl-in-Map.result
          own there is (ap (channel_asked device desk c.args.request) e) asked.book asked.reply
          (leaves-mapped g.B.Feeder.kind g.B.Feeder.kept tables parent slot lent new own there is asked.device
          (keeps-asked g.B.Feeder.kind g.B.Feeder.kept tables 0 lent new unfree asked.area asked.moves)) asked.refused;
    }

use Rattle.std.proofs.Common.{rules, [], refl, sym, ap, ◌∙◌}
use Rattle.pcm_oss.specs.declared.event.Event.TheVariants.{StartGroup}
use Rattle.pcm_oss.specs.declared.reply.Errno.TheVariants.{Busy, Inval}
use Rattle.pcm_engine.specs.Types.{Groups, Here}
use Rattle.pcm_group.specs.Groups.{all_in, change_in, dissolved, is_used}
use Rattle.pcm_desk.specs.Device.{seen}
use Rattle.pcm_desk.specs.Channels.{play_starting, record_starting}
use Rattle.pcm_desk.specs.Desk.{DeskTurn, desk_here, held_by}
use Rattle.pcm_desk.specs.PlayBooks.{play_is_ready}
use Rattle.pcm_sequence.specs.declared.fixed.Fixed.{Fixed}
use Rattle.pcm_sequence.specs.Fixed.{fixed_items}
use Rattle.pcm_map.specs.declared.channel.MapChannelOf.{MapChannelOf}
use Rattle.pcm_bus.specs.Slots.{map_books_of}
use Rattle.pcm_vchan.specs.Parents.{play_books, record_books}
use Rattle.pcm_engine.specs.Desks.{desk_with, turn_on}
use Rattle.pcm_engine.proofs.Answering.{answers-refusal, map-own, map-stay, own-served}
use Rattle.pcm_engine.proofs.Grouping.{handed-on, start-done}
use Rattle.pcm_engine.proofs.Opening.{rebooked}
use Rattle.pcm_engine.proofs.Turning.{holding-is}
use Rattle.pcm_engine.proofs.grouped.start_group.Goals as goal

pub returns-in_err-held : goal.returns-in_err-held
returns-in_err-held g c =
    answers-refusal g.B.Feeder.kind g.B.Feeder.kept c.args.tables.now (turn_on (StartGroup c.args.fd c.args.group)) c.args.parent.now
    c.args.descriptors.now [] _ c.in_err-held.field-0.0 (own-served c.requires.asks.able.served) (search rules)
    (handed-on c.from_residual.result c.in_err-held.field-0.0 c.from_residual.ensures.0 c.from_residual.ensures.1)

pub returns-then-not-may_join : goal.returns-then-not-may_join
returns-then-not-may_join g c =
    answers-refusal g.B.Feeder.kind g.B.Feeder.kept c.args.tables.now (turn_on (StartGroup c.args.fd c.args.group)) c.args.parent.now
    c.args.descriptors.now [] _ Inval (own-served c.requires.asks.able.served) (search rules) refl

pub returns-then-not-is_group_ready : goal.returns-then-not-is_group_ready
returns-then-not-is_group_ready g c =
    answers-refusal g.B.Feeder.kind g.B.Feeder.kept c.args.tables.now (turn_on (StartGroup c.args.fd c.args.group)) c.args.parent.now
    c.args.descriptors.now [] _ Busy (own-served c.requires.asks.able.served) (search rules) refl

pub returns : goal.returns
returns g c =
    let parent = c.args.parent.now in
    let new = c.start_group.new.self in
    let group = c.args.group in
    let device = seen c.args.tables.now parent.device in
    let desk = desk_with parent c.args.descriptors.now in
    let e = holding-is (held_by desk c.args.fd) c.in_ok-held.held (sym c.holding.ensures ∙ c.in_ok-held.was) in
    let joins = sym c.may_join.ensures ∙ c.if-not-may_join.false in
    let used = ap (λ (groups : Groups). is_used groups group) (sym c.groups-groups.ensures) ∙ sym c.is_used.ensures
    ∙ c.if-not-is_used.false in
    let ready = ap (λ (groups : Groups). all_in group play_is_ready groups.play desk.play) (sym c.groups-groups.ensures)
    ∙ sym c.is_group_ready.ensures ∙ c.if-not-is_group_ready.false in
    let made = c.start_group.ensures in
    let served = c.requires.asks.able.served in
    let done = start-done device desk (held_by desk c.args.fd) c.in_ok-held.held group e joins used ready in
    let play = made.books
    ∙ ap (λ (groups : Groups). change_in group (play_starting device c.args.here) groups.play (play_books parent)) c.groups-groups.ensures
    ∙ ap (λ (here : Here). change_in group (play_starting device here) desk.groups.play (play_books parent)) c.requires.asks.able.at in
    let recording = made.records ∙ ap (λ (groups : Groups). change_in group record_starting groups.recording (record_books parent))
    c.groups-groups.ensures in
    let mapped = ap (λ (v : Fixed (MapChannelOf _)). map_books_of (fixed_items v)) made.maps in
    record {
      silent = search rules;
      takes = record {
        refused = search rules;
        desk = rebooked parent new _ _ _ _ _ made.output c.regroup.ensures play recording mapped
            ∙ ap (λ (groups : Groups). record desk {
              play = change_in group (play_starting device (desk_here device desk)) desk.groups.play
                  desk.play;
              recording = change_in group record_starting desk.groups.recording desk.recording;
              groups = groups;
            })
            (c.dissolve.ensures ∙ ap (dissolved group) c.groups-groups.ensures)
            ∙ sym (ap (λ (t : DeskTurn). t.desk) done);
        reply = sym (ap (λ (t : DeskTurn). t.reply) done);
        leaves = record {
          own = record {
            playing = made.own;
            recording = made.recorders_own;
            mapped = map-own parent new made.output.device_same made.maps
                served.maps_own;
          };
          output = made.output;
          channels = made.channels;
          recorders = made.recorders;
          maps = map-stay g.B.Feeder.kind g.B.Feeder.kept c.args.tables.now parent new made.maps;
        };
      };
    }

use Rattle.std.proofs.Common.{rules, [], None, sym, ap, ◌∙◌}
use Rattle.pcm_oss.specs.declared.event.Event.TheVariants.{Close}
use Rattle.pcm_group.specs.declared.sync_groups.Groups.{Groups}
use Rattle.pcm_desk.specs.Device.{seen}
use Rattle.pcm_desk.specs.Desk.{Desk, held_by, leaving, with_descriptor}
use Rattle.pcm_engine.specs.declared.descriptors.Descriptors.{Descriptors}
use Rattle.pcm_engine.specs.Desks.{desk_with, turn_on, with_held}
use Rattle.pcm_engine.proofs.Answering.{answers-refusal, own-served}
use Rattle.pcm_engine.proofs.Grouping.{handed-on}
use Rattle.pcm_engine.proofs.Turning.{closes-held, holding-is, holding-not, open-there}
use Rattle.pcm_engine.proofs.clients.close.Goals as goal

pub close_channel-answer-requires : goal.close_channel-answer-requires
close_channel-answer-requires g c =
    let able = c.requires.called.asks.able in
    record {
      there = open-there c.args.parent.now c.args.descriptors.now c.args.fd c.in_ok-held.held able.apart
          (sym c.holding.ensures ∙ c.in_ok-held.was);
      served = record { filters = c.requires.called.filters; served = able.served; count = able.count };
    }

pub returns : goal.returns
returns g c = λ filters asks.
    let parent = c.args.parent.now in
    let descriptors = c.args.descriptors.now in
    let held = c.in_ok-held.held in
    let device = seen filters parent.device in
    let parted : Descriptors = record descriptors { groups = leaving held descriptors.groups } in
    let left = c.leave.ensures ∙ ap (leaving held) c.groups-groups.ensures in
    let found = holding-is (held_by (desk_with parent descriptors) c.args.fd) held (sym c.holding.ensures ∙ c.in_ok-held.was) in
    record {
      silent = search rules;
      takes = record {
        refused = search rules;
        desk = ap (desk_with c.close_channel-answer.new.parent)
            (c.set.ensures ∙ ap (λ (d : Descriptors). with_held d c.args.fd None)
            (c.regroup.ensures ∙ ap (λ (groups : Groups). record descriptors { groups = groups }) left))
            ∙ ap (λ (d : Desk). with_descriptor d c.args.fd None)
            (c.close_channel-answer.ensures.desk filters parted asks.able.served.ready asks.able.at)
            ∙ closes-held device (desk_with parent descriptors) c.args.fd held found;
        reply = search rules;
        leaves = c.close_channel-answer.ensures.leaves filters;
      };
    }

pub returns-in_err-held : goal.returns-in_err-held
returns-in_err-held g c = λ filters asks.
    let desk = desk_with c.args.parent.now c.args.descriptors.now in
    let errno = c.in_err-held.field-0.0 in
    answers-refusal g.B.Feeder.kind g.B.Feeder.kept filters (turn_on (Close c.args.fd)) c.args.parent.now c.args.descriptors.now [] _ errno
    (own-served asks.able.served)
    (holding-not (seen filters c.args.parent.now.device) desk (Close c.args.fd) (held_by desk c.args.fd) errno
    (sym c.holding.ensures ∙ c.in_err-held.was))
    (handed-on c.from_residual.result errno c.from_residual.ensures.0 c.from_residual.ensures.1)

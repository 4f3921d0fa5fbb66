use Rattle.std.proofs.Common.{rules, ℕ, [], refl, sym, ap, ◌∙◌, subst}
use Rattle.pcm_oss.specs.declared.event.Event.TheVariants.{Ioctl}
use Rattle.std.specs.Prelude.{nat_lt}
use Rattle.pcm_group.specs.declared.sync_groups.Groups.{Groups}
use Rattle.pcm_group.specs.Groups.{group_at}
use Rattle.pcm_desk.specs.Channels.{member_refusal}
use Rattle.pcm_desk.specs.Device.{seen}
use Rattle.pcm_desk.specs.Desk.{DeskTurn, held_by}
use Rattle.pcm_desk.specs.Own.{HoldApart}
use Rattle.pcm_desk.proofs.Apart.{regrouped}
use Rattle.pcm_engine.specs.declared.descriptors.Descriptors.{Descriptors}
use Rattle.pcm_engine.specs.Desks.{channel_asked, desk_with, turn_on}
use Rattle.pcm_engine.proofs.Answering.{answers-refusal, own-served}
use Rattle.pcm_engine.proofs.Grouping.{handed-on, request-asks, request-refused}
use Rattle.pcm_engine.proofs.Turning.{holding-is, holding-not}
use Rattle.pcm_engine.proofs.grouped.ioctl.Goals as goal

pub returns-in_err-held : goal.returns-in_err-held
returns-in_err-held g c =
    let desk = desk_with c.args.parent.now c.args.descriptors.now in
    let errno = c.in_err-held.field-0.0 in
    answers-refusal g.B.Feeder.kind g.B.Feeder.kept c.args.tables.now (turn_on (Ioctl c.args.fd c.args.request)) c.args.parent.now
    c.args.descriptors.now [] _ errno (own-served c.requires.asks.able.served)
    (holding-not (seen c.args.tables.now c.args.parent.now.device) desk (Ioctl c.args.fd c.args.request) (held_by desk c.args.fd) errno
    (sym c.holding.ensures ∙ c.in_err-held.was))
    (handed-on c.from_residual.result errno c.from_residual.ensures.0 c.from_residual.ensures.1)

pub returns-in-Some : goal.returns-in-Some
returns-in-Some g c =
    let desk = desk_with c.args.parent.now c.args.descriptors.now in
    let held = c.in_ok-held.held in
    let e = holding-is (held_by desk c.args.fd) held (sym c.holding.ensures ∙ c.in_ok-held.was) in
    let told = c.member_refusal.ensures ∙ ap (λ (n : ℕ). member_refusal (nat_lt 0 n) c.args.request)
    (c.of-group.ensures ∙ ap (λ (groups : Groups). group_at groups held.way held.slot) c.groups.ensures) in
    answers-refusal g.B.Feeder.kind g.B.Feeder.kept c.args.tables.now (turn_on (Ioctl c.args.fd c.args.request)) c.args.parent.now
    c.args.descriptors.now [] _ c.in-Some.errno (own-served c.requires.asks.able.served)
    (request-refused (seen c.args.tables.now c.args.parent.now.device) desk c.args.fd c.args.request (held_by desk c.args.fd) held
    c.in-Some.errno e (sym told ∙ c.in-Some.is)) refl

pub ask-requires : goal.ask-requires
ask-requires g c =
    let able = c.requires.asks.able in
    let apart = subst (λ (d : Descriptors). HoldApart (desk_with c.args.parent.now d)) (sym c.leave_by.ensures)
    (regrouped (desk_with c.args.parent.now c.args.descriptors.now) _ able.apart) in
    record {
      asks = record {
        within = c.requires.asks.within;
        able = record {
          apart = apart;
          served = able.served;
          bus = able.bus;
          here = able.here;
          at = able.at;
          places = able.places;
          count = able.count;
          taken = able.taken;
        };
      };
    }

pub returns : goal.returns
returns g c =
    let device = seen c.args.tables.now c.args.parent.now.device in
    let desk = desk_with c.args.parent.now c.args.descriptors.now in
    let held = c.in_ok-held.held in
    let e = holding-is (held_by desk c.args.fd) held (sym c.holding.ensures ∙ c.in_ok-held.was) in
    let told = c.member_refusal.ensures ∙ ap (λ (n : ℕ). member_refusal (nat_lt 0 n) c.args.request)
    (c.of-group.ensures ∙ ap (λ (groups : Groups). group_at groups held.way held.slot) c.groups.ensures) in
    let asks = request-asks device desk c.args.fd c.args.request (held_by desk c.args.fd) held e (sym told ∙ c.in_default.is) in
    let left = λ (d : Descriptors). channel_asked device (desk_with c.args.parent.now d) c.args.request
    (held_by (desk_with c.args.parent.now d) c.args.fd) in
    let took = c.ask.ensures.takes in
    record {
      silent = c.ask.ensures.silent;
      takes = record {
        refused = search rules;
        desk = took.desk ∙ ap (λ (d : Descriptors). (left d).desk) c.leave_by.ensures ∙ ap (λ (t : DeskTurn). t.desk) asks;
        reply = took.reply ∙ ap (λ (d : Descriptors). (left d).reply) c.leave_by.ensures ∙ ap (λ (t : DeskTurn). t.reply) asks;
        leaves = took.leaves;
      };
    }

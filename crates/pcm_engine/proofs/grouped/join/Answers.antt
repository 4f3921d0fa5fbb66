use Rattle.std.proofs.Common.{rules, ℕ, [], Option, Result, Some, refl, sym, ap, ◌∙◌}
use Rattle.pcm_oss.specs.declared.event.Event.TheVariants.{Join}
use Rattle.pcm_engine.specs.Types.{Errno, Groups, Held}
use Rattle.pcm_oss.specs.declared.reply.Errno.TheVariants.{Busy}
use Rattle.pcm_oss.specs.declared.request.Request.TheVariants.{SetTrigger}
use Rattle.pcm_group.specs.Groups.{groups_joined, joining}
use Rattle.pcm_desk.specs.Device.{seen}
use Rattle.pcm_desk.specs.Desk.{Desk, DeskTurn, held_by}
use Rattle.pcm_engine.specs.declared.descriptors.Descriptors.{Descriptors}
use Rattle.pcm_engine.specs.Desks.{channel_asked, desk_with, turn_on}
use Rattle.pcm_engine.proofs.Answering.{answers-refusal, own-served}
use Rattle.pcm_engine.proofs.Grouping.{handed-on, join-busy, join-done, join-refused}
use Rattle.pcm_engine.proofs.Turning.{holding-is, holding-not, open-there}
use Rattle.pcm_engine.proofs.grouped.join.Goals as goal

pub returns-in_err-held : goal.returns-in_err-held
returns-in_err-held g c =
    let desk = desk_with c.args.parent.now c.args.descriptors.now in
    let errno = c.in_err-held.field-0.0 in
    answers-refusal g.B.Feeder.kind g.B.Feeder.kept c.args.tables.now (turn_on (Join c.args.fd c.args.group)) c.args.parent.now
    c.args.descriptors.now [] _ errno (own-served c.requires.asks.able.served)
    (holding-not (seen c.args.tables.now c.args.parent.now.device) desk (Join c.args.fd c.args.group) (held_by desk c.args.fd) errno
    (sym c.holding.ensures ∙ c.in_err-held.was))
    (handed-on c.from_residual.result errno c.from_residual.ensures.0 c.from_residual.ensures.1)

pub returns-in_err-number : goal.returns-in_err-number
returns-in_err-number g c =
    let desk = desk_with c.args.parent.now c.args.descriptors.now in
    let held = c.in_ok-held.held in
    let errno = c.in_err-number.field-0.0 in
    let e = holding-is (held_by desk c.args.fd) held (sym c.holding.ensures ∙ c.in_ok-held.was) in
    let answer = ap (λ (groups : Groups). joining groups held.way held.slot c.args.group) (sym c.groups-groups.ensures)
    ∙ sym c.join.ensures.answer ∙ c.in_err-number.was in
    answers-refusal g.B.Feeder.kind g.B.Feeder.kept c.args.tables.now (turn_on (Join c.args.fd c.args.group)) c.args.parent.now
    c.args.descriptors.now [] _ errno (own-served c.requires.asks.able.served)
    (join-refused (seen c.args.tables.now c.args.parent.now.device) desk c.args.fd (held_by desk c.args.fd) held c.args.group errno e
    answer)
    (handed-on c.from_residual-in_err-number.result errno c.from_residual-in_err-number.ensures.0 c.from_residual-in_err-number.ensures.1)

pub is_at_rest-requires : goal.is_at_rest-requires
is_at_rest-requires g c = open-there c.args.parent.now c.args.descriptors.now c.args.fd c.in_ok-held.held c.requires.asks.able.apart
    (sym c.holding.ensures ∙ c.in_ok-held.was)

pub returns-then-not-is_at_rest : goal.returns-then-not-is_at_rest
returns-then-not-is_at_rest g c =
    let device = seen c.args.tables.now c.args.parent.now.device in
    let desk = desk_with c.args.parent.now c.args.descriptors.now in
    let held = c.in_ok-held.held in
    let e = holding-is (held_by desk c.args.fd) held (sym c.holding.ensures ∙ c.in_ok-held.was) in
    let answer = ap (λ (groups : Groups). joining groups held.way held.slot c.args.group) (sym c.groups-groups.ensures)
    ∙ sym c.join.ensures.answer ∙ c.in_ok-number.was in
    let moving = sym (c.is_at_rest.ensures device c.args.descriptors.now) ∙ c.if-not-is_at_rest.true in
    answers-refusal g.B.Feeder.kind g.B.Feeder.kept c.args.tables.now (turn_on (Join c.args.fd c.args.group)) c.args.parent.now
    c.args.descriptors.now [] _ Busy (own-served c.requires.asks.able.served)
    (join-busy device desk c.args.fd (held_by desk c.args.fd) held c.args.group c.in_ok-number.number e answer moving) refl

pub returns : goal.returns
returns g c =
    let device = seen c.args.tables.now c.args.parent.now.device in
    let desk = desk_with c.args.parent.now c.args.descriptors.now in
    let held = c.in_ok-held.held in
    let number = c.in_ok-number.number in
    let e = holding-is (held_by desk c.args.fd) held (sym c.holding.ensures ∙ c.in_ok-held.was) in
    let answer = ap (λ (groups : Groups). joining groups held.way held.slot c.args.group) (sym c.groups-groups.ensures)
    ∙ sym c.join.ensures.answer ∙ c.in_ok-number.was in
    let done = join-done device desk c.args.fd (held_by desk c.args.fd) held c.args.group number e answer
    (sym (c.is_at_rest.ensures device c.args.descriptors.now) ∙ c.if-not-is_at_rest.false) in
    let joined = c.join.ensures.groups
    ∙ ap (λ (groups : Groups). groups_joined groups held.way held.slot c.join.result) c.groups-groups.ensures
    ∙ ap (λ (r : Result ℕ Errno). groups_joined desk.groups held.way held.slot r) c.in_ok-number.was in
    record {
      silent = search rules;
      takes = record {
        refused = search rules;
        desk = ap (λ (descriptors : Descriptors). desk_with c.ask.new.parent descriptors) c.regroup.ensures
            ∙ ap (λ (d : Desk). record d { groups = c.join.new.self }) c.ask.ensures.takes.desk
            ∙ ap (λ (h : Option Held). record (channel_asked device desk (SetTrigger 0) h).desk { groups = c.join.new.self }) e
            ∙ ap (λ (groups : Groups). record (channel_asked device desk (SetTrigger 0) (Some held)).desk { groups = groups }) joined
            ∙ sym (ap (λ (t : DeskTurn). t.desk) done);
        reply = sym (ap (λ (t : DeskTurn). t.reply) done);
        leaves = c.ask.ensures.takes.leaves;
      };
    }

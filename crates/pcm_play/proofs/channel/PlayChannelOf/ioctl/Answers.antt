use Rattle.std.proofs.Common.{rules, ◌≡◌, [], ap, sym, subst, ◌∙◌, length, refl}
use Rattle.pcm_format.specs.Frames.{frame_bytes}
use Rattle.pcm_path.proofs.Paths.{serves-as}
use Rattle.pcm_plan.specs.Plans.{PlanSeen, rate_in_plan}
use Rattle.pcm_desk.specs.declared.device.Device.{Device}
use Rattle.pcm_desk.specs.Device.{play_plan_between, seen}
use Rattle.pcm_desk.specs.declared.play_book.PlayBook.{PlayBook}
use Rattle.pcm_desk.specs.declared.turn.Turn.{Turn}
use Rattle.pcm_desk.specs.Channels.{play_rate_at}
use Rattle.pcm_desk.specs.PlaySafe.{PlayIsSafe}
use Rattle.pcm_desk.proofs.Refused.{ask-refused}
use Rattle.pcm_play.proofs.Moving.{asked-here, asked-is, book-asked, moves-ended, moves-nothing, moves-state, safe-asked}
use Rattle.pcm_desk.proofs.Ratios.{device-is}
use Rattle.pcm_play.proofs.channel.PlayChannelOf.ioctl.Goals as goal

pub asked-turn-requires-clause-delay : goal.asked-turn-requires-clause-delay
asked-turn-requires-clause-delay g c = record {
  ratio = search rules;
  client = search rules;
  mix = c.args.self.now.serves.device.mix_rate;
  place = c.requires.here;
  at = asked-here c.args.tables.now c.args.here c.args.self.now c.rate-rate.result c.plan.result.now c.requires.planned
      c.rate-rate.ensures.value c.plan.ensures c.requires.at;
}

pub begin-requires : goal.begin-requires
begin-requires g c =
    let old = c.args.self.now in
    let left = book-asked c.args.here c.args.request old c.asked-turn.result c.rate-rate.result c.plan.result.now c.asked-turn.ensures
    c.rate-rate.ensures.value c.plan.ensures in
    record {
      can = record {
        device = old.serves.device;
        rate = left.rate;
        fragments = left.safe.fragments;
        room = old.serves.room;
        kinds = c.requires.kinds;
      };
    }

pub invariant_of-self : goal.invariant_of-self
invariant_of-self g c =
    let old = c.args.self.now in
    let left = book-asked c.args.here c.args.request old c.asked-turn.result c.rate-rate.result c.plan.result.now c.asked-turn.ensures
    c.rate-rate.ensures.value c.plan.ensures in
    let none = left.ended c.if-self-eq0.true in
    record {
      serves = c.begin.ensures.serves;
      fill = ap length c.begin.ensures.empty.ring ∙ none.3;
      within = none.2;
      safe = subst (λ (p : PlanSeen). PlayIsSafe (rate_in_plan p) c.asked-turn.result.book)
          (sym (c.begin.ensures.planned.plan_is ∙ ap
          (λ (d : Device). play_plan_between (seen c.args.tables.now d) c.asked-turn.result.book.opening.settings) c.begin.ensures.device))
          (safe-asked c.args.tables.now c.args.here c.args.request old c.asked-turn.result
          (device-is c.args.tables.now old.path.device old.serves.device c.begin.ensures.planned.limits) c.requires.planned
          (asked-is c.args.tables.now c.args.here c.args.request old c.asked-turn.result c.rate-rate.result c.plan.result.now
          c.requires.planned c.asked-turn.ensures c.rate-rate.ensures.value c.plan.ensures));
    }

pub invariant_of-self-else-self-eq0 : goal.invariant_of-self-else-self-eq0
invariant_of-self-else-self-eq0 g c =
    let old = c.args.self.now in
    let left = book-asked c.args.here c.args.request old c.asked-turn.result c.rate-rate.result c.plan.result.now c.asked-turn.ensures
    c.rate-rate.ensures.value c.plan.ensures in
    let go = left.goes c.if-self-eq0.false in
    let size : frame_bytes c.asked-turn.result.book.opening.settings ≡ frame_bytes old.book.opening.settings = ap frame_bytes go.settings in
    record {
      serves = serves-as old.book.opening c.asked-turn.result.book.opening old.path old.path old.path.ring.bytes refl refl refl go.settings
          go.fragments old.serves;
      fill = old.fill ∙ sym (rw (go.written, go.eaten, size) refl);
      within = rw (go.eaten, size, go.written) old.within;
      safe = left.safe;
    }

pub returns-then-self-eq0 : goal.returns-then-self-eq0
returns-then-self-eq0 g c =
    let old = c.args.self.now in
    let left = book-asked c.args.here c.args.request old c.asked-turn.result c.rate-rate.result c.plan.result.now c.asked-turn.ensures
    c.rate-rate.ensures.value c.plan.ensures in
    let none = left.ended c.if-self-eq0.true in
    let asked = asked-is c.args.tables.now c.args.here c.args.request old c.asked-turn.result c.rate-rate.result c.plan.result.now
    c.requires.planned c.asked-turn.ensures c.rate-rate.ensures.value c.plan.ensures in
    record {
      book = ap (λ (t : Turn PlayBook). t.book) asked;
      reply = sym c.in_ok-answer.was ∙ ap (λ (t : Turn PlayBook). t.reply) asked;
      device = c.begin.ensures.device;
      refused = search rules;
      moves = moves-ended g.B.Feeder.kind g.B.Feeder.kept c.args.tables.now _ 0 old _ c.begin.ensures.kinds
          (λ p used. c.begin.ensures.planned) c.if-self-eq0.true none.0 none.1 c.begin.ensures.empty (left.done c.if-self-eq0.true);
    }

pub returns-else-self-eq0 : goal.returns-else-self-eq0
returns-else-self-eq0 g c =
    let old = c.args.self.now in
    let left = book-asked c.args.here c.args.request old c.asked-turn.result c.rate-rate.result c.plan.result.now c.asked-turn.ensures
    c.rate-rate.ensures.value c.plan.ensures in
    let asked = asked-is c.args.tables.now c.args.here c.args.request old c.asked-turn.result c.rate-rate.result c.plan.result.now
    c.requires.planned c.asked-turn.ensures c.rate-rate.ensures.value c.plan.ensures in
    record {
      book = ap (λ (t : Turn PlayBook). t.book) asked;
      reply = sym c.in_ok-answer.was ∙ ap (λ (t : Turn PlayBook). t.reply) asked;
      device = refl;
      refused = search rules;
      moves = moves-state g.B.Feeder.kind g.B.Feeder.kept c.args.tables.now old _ refl refl refl (left.goes c.if-self-eq0.false)
          c.if-self-eq0.false;
    }

-- what is refused leaves the book
pub returns-in_err-answer : goal.returns-in_err-answer
returns-in_err-answer g c =
    let old = c.args.self.now in
    let asked = asked-is c.args.tables.now c.args.here c.args.request old c.asked-turn.result c.rate-rate.result c.plan.result.now
    c.requires.planned c.asked-turn.ensures c.rate-rate.ensures.value c.plan.ensures in
    let told = ap (λ (t : Turn PlayBook). t.reply) (sym asked) ∙ c.in_err-answer.was in
    record {
      book = sym (ask-refused (play_rate_at (seen c.args.tables.now old.path.device) old.book) old.path.device.mix.rate c.args.here
          c.args.request old.book c.in_err-answer.field-0.0 told);
      reply = search rules;
      device = refl;
      refused = search rules;
      moves = moves-nothing g.B.Feeder.kind g.B.Feeder.kept c.args.tables.now [] 0 old;
    }

use Rattle.std.proofs.Common.{rules, [], ap, sym, subst, ◌∙◌, length, refl}
use Rattle.pcm_path.proofs.Paths.{serves-as}
use Rattle.pcm_plan.specs.Plans.{PlanSeen, rate_in_plan}
use Rattle.pcm_desk.specs.declared.device.Device.{Device}
use Rattle.pcm_desk.specs.Device.{record_plan_between, seen}
use Rattle.pcm_desk.specs.declared.record_book.RecordBook.{RecordBook}
use Rattle.pcm_desk.specs.declared.turn.Turn.{Turn}
use Rattle.pcm_desk.specs.RecordSafe.{RecordIsSafe}
use Rattle.pcm_desk.proofs.Refused.{record-ask-refused}
use Rattle.pcm_sound.proofs.Recorded.{idle-unstarted}
use Rattle.pcm_record.proofs.Held.{running-held}
use Rattle.pcm_record.proofs.Moving.{book-asked, moves-ended, moves-nothing, moves-read, none-waits, stays-fill, stays-reads}
use Rattle.pcm_record.proofs.channel.RecordChannelOf.ioctl.Goals as goal

pub begin-requires : goal.begin-requires
begin-requires g c =
    let old = c.args.self.now in
    let left = book-asked c.args.tables.now c.args.request old c.asked-turn.result c.requires.planned c.asked-turn.ensures in
    record {
      can = record {
        device = old.serves.device;
        room = old.serves.room;
        kinds = c.requires.kinds;
        rate = left.rate;
        fragments = left.safe.fragments;
      };
    }

pub invariant_of-self : goal.invariant_of-self
invariant_of-self g c =
    let old = c.args.self.now in
    let new = c.asked-turn.result.book in
    let left = book-asked c.args.tables.now c.args.request old c.asked-turn.result c.requires.planned c.asked-turn.ensures in
    record {
      serves = c.begin.ensures.serves;
      fill = ap length c.begin.ensures.empty.ring
          ∙ none-waits new (idle-unstarted new.state new (sym c.if-not-is_running.ensures) left.safe.order);
      within = left.safe.read;
      safe = subst (λ (p : PlanSeen). RecordIsSafe (rate_in_plan p) new)
          (sym (c.begin.ensures.planned.plan_is ∙ ap (λ (d : Device). record_plan_between (seen c.args.tables.now d) new.opening.settings)
          c.begin.ensures.device)) left.safe;
    }

pub invariant_of-self-else-not-is_running : goal.invariant_of-self-else-not-is_running
invariant_of-self-else-not-is_running g c =
    let old = c.args.self.now in
    let new = c.asked-turn.result.book in
    let left = book-asked c.args.tables.now c.args.request old c.asked-turn.result c.requires.planned c.asked-turn.ensures in
    let go = left.goes (sym c.if-not-is_running.ensures) in
    record {
      serves = serves-as old.book.opening new.opening old.path old.path old.path.ring.bytes refl refl refl go.settings go.fragments
          old.serves;
      fill = old.fill ∙ stays-fill old.book new go;
      within = left.safe.read;
      safe = subst (λ (p : PlanSeen). RecordIsSafe (rate_in_plan p) new)
          (sym ((c.requires.planned (go.held (running-held new.state (sym c.if-not-is_running.ensures)))).plan_is
          ∙ ap (record_plan_between (seen c.args.tables.now old.path.device)) (sym go.settings))) left.safe;
    }

pub returns-then-not-is_running : goal.returns-then-not-is_running
returns-then-not-is_running g c = record {
  book = search rules;
  reply = search rules;
  device = c.begin.ensures.device;
  refused = search rules;
  moves = (
      let old = c.args.self.now in
      let new = c.asked-turn.result.book in
      let left = book-asked c.args.tables.now c.args.request old c.asked-turn.result c.requires.planned c.asked-turn.ensures in
      moves-ended g.B.Feeder.kind g.B.Feeder.kept c.args.tables.now old _ c.begin.ensures.kinds
      (λ p used. c.begin.ensures.planned)
      (idle-unstarted new.state new (sym c.if-not-is_running.ensures) left.safe.order) c.begin.ensures.empty);
}

pub returns-else-not-is_running : goal.returns-else-not-is_running
returns-else-not-is_running g c = record {
  book = search rules;
  reply = search rules;
  device = refl;
  refused = search rules;
  moves = (
      let old = c.args.self.now in
      let new = c.asked-turn.result.book in
      let left = book-asked c.args.tables.now c.args.request old c.asked-turn.result c.requires.planned c.asked-turn.ensures in
      moves-read g.B.Feeder.kind g.B.Feeder.kept c.args.tables.now 0 old _ refl refl refl
      (stays-reads old.book new (left.goes (sym c.if-not-is_running.ensures))) (left.goes (sym c.if-not-is_running.ensures)).held);
}

-- what is refused leaves the book
pub returns-in_err-answer : goal.returns-in_err-answer
returns-in_err-answer g c = record {
  book = sym (record-ask-refused c.args.request c.args.self.now.book c.in_err-answer.field-0.0
      (ap (λ (t : Turn RecordBook). t.reply) (sym c.asked-turn.ensures) ∙ c.in_err-answer.was));
  reply = search rules;
  device = refl;
  refused = search rules;
  moves = moves-nothing g.B.Feeder.kind g.B.Feeder.kept c.args.tables.now [] 0 c.args.self.now;
}

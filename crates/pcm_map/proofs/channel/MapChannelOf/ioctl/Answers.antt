use Rattle.std.proofs.Common.{rules, arith, take, sym, ap, subst, ◌∙◌, refl, [], List, ℕ, cond}
use Rattle.std.proofs.lemmas.Grind.{common_steps}
use Rattle.pcm_sequence.proofs.Items.{items-written}
use Rattle.pcm_plan.specs.Plans.{PlanSeen, rate_in_plan}
use Rattle.pcm_desk.specs.declared.device.Device.{Device}
use Rattle.pcm_desk.specs.declared.turn.Turn.{Turn}
use Rattle.pcm_desk.specs.declared.map_book.MapBook.{MapBook}
use Rattle.pcm_desk.specs.Device.{HasRates, play_plan_between, seen}
use Rattle.pcm_desk.specs.MapSafe.{MapIsSafe}
use Rattle.pcm_desk.specs.Openings.{ring_bytes}
use Rattle.pcm_sound.specs.Areas.{is_recut, silent_area}
use Rattle.pcm_desk.proofs.Refused.{map-ask-refused}
use Rattle.pcm_chain.specs.Chains.{plan_in}
use Rattle.pcm_map.proofs.Held.{given-held}
use Rattle.pcm_map.proofs.Moving.{book-asked, moves-ended, moves-kept, moves-nothing}
use Rattle.pcm_map.proofs.channel.MapChannelOf.ioctl.Goals as goal

-- what is refused leaves the book
pub returns-in_err-answer : goal.returns-in_err-answer
returns-in_err-answer g c = record {
  book = sym (map-ask-refused c.args.request c.args.self.now.book c.in_err-answer.field-0.0
      (ap (λ (t : Turn MapBook). t.reply) (sym c.asked-turn.ensures) ∙ c.in_err-answer.was));
  reply = search rules;
  device = refl;
  area = grind (arith, common_steps);
  refused = search rules;
  moves = moves-nothing g.B.Feeder.kind g.B.Feeder.kept c.args.tables.now [] 0 c.args.self.now;
}

pub recut-requires-clause-fragments : goal.recut-requires-clause-fragments
recut-requires-clause-fragments g c = (book-asked c.args.tables.now c.args.request c.args.self.now c.asked-turn.result c.requires.planned
    c.asked-turn.ensures).safe.fragments

pub begin_run-requires : goal.begin_run-requires
begin_run-requires g c =
    let old = c.args.self.now in
    let left = book-asked c.args.tables.now c.args.request old c.asked-turn.result c.requires.planned c.asked-turn.ensures in
    record {
      can = record {
        device = old.rates;
        rate = left.rate;
        fragments = left.safe.fragments;
        room = search rules;
        kinds = c.requires.kinds;
      };
    }

pub invariant_of-self : goal.invariant_of-self
invariant_of-self g c =
    let old = c.args.self.now in
    let left = book-asked c.args.tables.now c.args.request old c.asked-turn.result c.requires.planned c.asked-turn.ensures in
    record {
      rates = subst HasRates (sym c.begin_run.ensures.device) old.rates;
      rate = left.rate;
      ratio = c.begin_run.ensures.ratio;
      ring = c.begin_run.ensures.ring;
      safe = subst (λ (p : PlanSeen). MapIsSafe (rate_in_plan p) c.asked-turn.result.book)
          (sym (c.begin_run.ensures.planned.plan_is
          ∙ ap (λ (d : Device). play_plan_between (seen c.args.tables.now d) c.asked-turn.result.book.opening.settings)
          c.begin_run.ensures.device)) left.safe;
      size = old.size;
    }

pub invariant_of-self-else-self-eq0 : goal.invariant_of-self-else-self-eq0
invariant_of-self-else-self-eq0 g c =
    let old = c.args.self.now in
    let left = book-asked c.args.tables.now c.args.request old c.asked-turn.result c.requires.planned c.asked-turn.ensures in
    let go = left.goes c.if-self-eq0.false in
    record {
      rates = old.rates;
      rate = left.rate;
      ratio = old.ratio;
      ring = old.ring;
      safe = subst (λ (p : PlanSeen). MapIsSafe (rate_in_plan p) c.asked-turn.result.book)
          (sym ((c.requires.planned (given-held (rate_in_plan (plan_in old.path.chain)) old.book old.safe
          (λ none. c.if-self-eq0.false (go.given ∙ none)))).plan_is
          ∙ ap (play_plan_between (seen c.args.tables.now old.path.device)) (sym go.settings))) left.safe;
      size = old.size;
    }

pub returns-then-self-eq0 : goal.returns-then-self-eq0
returns-then-self-eq0 g c =
    let old = c.args.self.now in
    let new = c.asked-turn.result.book.opening in
    let left = book-asked c.args.tables.now c.args.request old c.asked-turn.result c.requires.planned c.asked-turn.ensures in
    record {
      book = search rules;
      reply = search rules;
      device = c.begin_run.ensures.device;
      area = ap (take (ring_bytes new)) (items-written old.area c.recut.new.area (c.recut.auto.area ∙ c.deref_mut.ensures.len))
          ∙ c.recut.ensures
          ∙ ap (λ (list : List ℕ). cond (is_recut old.book.opening new) (silent_area new) (take (ring_bytes old.book.opening) list))
          c.deref_mut.ensures.value;
      refused = search rules;
      moves = moves-ended g.B.Feeder.kind g.B.Feeder.kept c.args.tables.now [] 0 old _ c.begin_run.ensures.kinds
          (λ p used. c.begin_run.ensures.planned)
          (left.ended c.if-self-eq0.true) c.if-self-eq0.true c.begin_run.ensures.empty;
    }

pub returns-else-self-eq0 : goal.returns-else-self-eq0
returns-else-self-eq0 g c =
    let old = c.args.self.now in
    let new = c.asked-turn.result.book.opening in
    let go = (book-asked c.args.tables.now c.args.request old c.asked-turn.result c.requires.planned c.asked-turn.ensures).goes
    c.if-self-eq0.false in
    record {
      book = search rules;
      reply = search rules;
      device = refl;
      area = ap (take (ring_bytes new)) (items-written old.area c.recut.new.area (c.recut.auto.area ∙ c.deref_mut.ensures.len))
          ∙ c.recut.ensures
          ∙ ap (λ (list : List ℕ). cond (is_recut old.book.opening new) (silent_area new) (take (ring_bytes old.book.opening) list))
          c.deref_mut.ensures.value;
      refused = search rules;
      moves = moves-kept g.B.Feeder.kind g.B.Feeder.kept c.args.tables.now [] 0 old _ refl refl go.settings go.eaten go.given go.held;
    }

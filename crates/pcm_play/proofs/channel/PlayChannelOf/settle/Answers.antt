use Rattle.std.proofs.Common.{◌≡◌, ap, sym, subst, ◌∙◌, [], length, refl}
use Rattle.pcm_format.specs.Frames.{frame_bytes}
use Rattle.pcm_oss.specs.declared.event.Way.TheVariants.{Play}
use Rattle.pcm_path.proofs.Paths.{planned-as, serves-as}
use Rattle.pcm_rate.specs.declared.rate.Rate.{Rate}
use Rattle.pcm_plan.specs.Plans.{PlanSeen, rate_in_plan}
use Rattle.pcm_desk.specs.PlayBooks.{play_settled}
use Rattle.pcm_desk.specs.PlaySafe.{PlayIsSafe}
use Rattle.pcm_play.proofs.Held.{draining-held}
use Rattle.pcm_play.proofs.Moving.{moves-ended, moves-state, book-settled}
use Rattle.pcm_play.proofs.channel.PlayChannelOf.settle.Goals as goal

pub invariant_of-self : goal.invariant_of-self
invariant_of-self g c =
    let old = c.args.self.now in
    let k = book-settled old c.args.here.passed c.settled-self.result c.rate-rate.result c.plan.result.now c.settled-self.ensures
    c.rate-rate.ensures.value c.plan.ensures in
    let none = k.left.ended c.if-self-eq0.true in
    record {
      serves = serves-as old.book.opening c.settled-self.result.opening old.path c.restart.new.self [] c.restart.ensures.device
          c.restart.ensures.plan c.restart.ensures.ring k.keeps.settings k.keeps.fragments old.serves;
      fill = ap length c.restart.ensures.empty.ring ∙ none.3;
      within = none.2;
      safe = subst (λ (p : PlanSeen). PlayIsSafe (rate_in_plan p) c.settled-self.result) (sym c.restart.ensures.plan) k.left.safe;
    }

pub invariant_of-self-else-self-eq0 : goal.invariant_of-self-else-self-eq0
invariant_of-self-else-self-eq0 g c =
    let old = c.args.self.now in
    let k = book-settled old c.args.here.passed c.settled-self.result c.rate-rate.result c.plan.result.now c.settled-self.ensures
    c.rate-rate.ensures.value c.plan.ensures in
    let go = k.left.goes c.if-self-eq0.false in
    let size : frame_bytes c.settled-self.result.opening.settings ≡ frame_bytes old.book.opening.settings = ap frame_bytes go.settings in
    record {
      serves = serves-as old.book.opening c.settled-self.result.opening old.path old.path old.path.ring.bytes refl refl refl
          go.settings go.fragments old.serves;
      fill = old.fill ∙ sym (rw (go.written, go.eaten, size) refl);
      within = rw (go.eaten, size, go.written) old.within;
      safe = k.left.safe;
    }

pub returns-then-self-eq0 : goal.returns-then-self-eq0
returns-then-self-eq0 g c = record {
  device = c.restart.ensures.device;
  book = λ filters served.
      let planned = served (draining-held c.args.self.now.book.state (sym c.if-not-is_draining.ensures)) in
      c.settled-self.ensures ∙ ap (λ (r : Rate). play_settled r c.args.here.passed c.args.self.now.book)
      (c.rate-rate.ensures.value ∙ ap (λ (p : PlanSeen). rate_in_plan p) (c.plan.ensures ∙ planned.plan_is));
  moves = λ filters.
      let old = c.args.self.now in
      let k = book-settled old c.args.here.passed c.settled-self.result c.rate-rate.result c.plan.result.now c.settled-self.ensures
      c.rate-rate.ensures.value c.plan.ensures in
      let left = k.left in
      let none = left.ended c.if-self-eq0.true in
      moves-ended g.B.Feeder.kind g.B.Feeder.kept filters _ 0 old _ c.restart.ensures.kinds
      (λ p used. planned-as Play filters _ _ old.path c.restart.new.self c.restart.ensures.device c.restart.ensures.plan
      k.keeps.settings (p (draining-held old.book.state (sym c.if-not-is_draining.ensures)))) c.if-self-eq0.true none.0 none.1
      c.restart.ensures.empty (left.done c.if-self-eq0.true);
}

pub returns-else-self-eq0 : goal.returns-else-self-eq0
returns-else-self-eq0 g c = record {
  device = refl;
  book = λ filters served.
      let planned = served (draining-held c.args.self.now.book.state (sym c.if-not-is_draining.ensures)) in
      c.settled-self.ensures ∙ ap (λ (r : Rate). play_settled r c.args.here.passed c.args.self.now.book)
      (c.rate-rate.ensures.value ∙ ap (λ (p : PlanSeen). rate_in_plan p) (c.plan.ensures ∙ planned.plan_is));
  moves = λ filters.
      let old = c.args.self.now in
      let left = (book-settled old c.args.here.passed c.settled-self.result c.rate-rate.result c.plan.result.now c.settled-self.ensures
      c.rate-rate.ensures.value c.plan.ensures).left in
      moves-state g.B.Feeder.kind g.B.Feeder.kept filters old _ refl refl refl (left.goes c.if-self-eq0.false) c.if-self-eq0.false;
}

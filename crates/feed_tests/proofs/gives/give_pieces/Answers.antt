use Rattle.std.proofs.Common.{◌≡◌, ◌+◌, ◌-◌, length, take, drop, refl, ap, ◌∙◌, sym, subst, arith}
use Rattle.std.proofs.lemmas.List.{length-drop, length-take-le}
use Rattle.pcm_plan.specs.Fits.{HaveTables}
use Rattle.pcm_plan.specs.Plans.{PlanSeen}
use Rattle.pcm_chain.specs.Gives.{GivesExactly}
use Rattle.feed_tests.proofs.gives.give_pieces.Goals as goal

pub loop-at-preserved : goal.loop-at-preserved
loop-at-preserved g c =
    let h = c.loop-at.invariant in
    let same = c.may_give.ensures.plan in
    let next = c.if-not-may_give.ensures.gives refl in
    let at = c.loop-at.given in
    let n = c.from-count.result in
    let part = take (at + n - at) (drop at c.loop-at.out) in
    let count : length part ≡ n =
    omega (
      arith,
      length-take-le (at + n - at) (drop at c.loop-at.out)
          (omega (arith, length-drop at c.loop-at.out, c.loop-at.auto.out, c.requires.room, c.if-given-count-gt4.false)),
    ) in
    record {
      given = omega arith;
      eaten = omega arith;
      source = ap (λ (p : PlanSeen). p.source) same ∙ h.source;
      target = ap (λ (p : PlanSeen). p.target) same ∙ h.target;
      tables = subst (λ (p : PlanSeen). HaveTables p.stages c.args.tables.now) (sym same) h.tables;
      gives = (next.0, subst (λ k. GivesExactly g.B.Feeder.kept c.args.tables.now c.may_give.new.chain next.0 (at + k)) count next.1);
    }

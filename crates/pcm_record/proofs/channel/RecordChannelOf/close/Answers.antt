use Rattle.std.proofs.Common.{◌≡◌, true, false, [], ap, sym, ◌∙◌, subst}
use Rattle.pcm_path.proofs.Paths.{serves-as}
use Rattle.pcm_plan.specs.Plans.{PlanSeen, rate_in_plan}
use Rattle.pcm_chain.specs.Chains.{plan_in}
use Rattle.pcm_desk.specs.declared.record_book.RecordBook.{RecordBook}
use Rattle.pcm_desk.specs.RunStates.{is_unheld}
use Rattle.pcm_desk.specs.RecordSafe.{RecordIsSafe}
use Rattle.pcm_desk.proofs.RecordSafe.{record-safe-closed}
use Rattle.pcm_record.proofs.Moving.{moves-ended}
use Rattle.pcm_record.proofs.channel.RecordChannelOf.close.Goals as goal

pub invariant_of-self-clause-serves : goal.invariant_of-self-clause-serves
invariant_of-self-clause-serves g c =
    let old = c.args.self.now in
    let closed = c.closed-self.ensures in
    serves-as old.book.opening c.closed-self.result.opening old.path c.restart.new.self [] c.restart.ensures.device c.restart.ensures.plan
    c.restart.ensures.ring
    (ap (λ (b : RecordBook). b.opening.settings) closed) (ap (λ (b : RecordBook). b.opening.fragments) closed) old.serves

pub invariant_of-self-clause-safe : goal.invariant_of-self-clause-safe
invariant_of-self-clause-safe g c =
    let old = c.args.self.now in
    subst (λ (p : PlanSeen). RecordIsSafe (rate_in_plan p) c.closed-self.result) (sym c.restart.ensures.plan)
    (subst (RecordIsSafe (rate_in_plan (plan_in old.path.chain))) (sym c.closed-self.ensures)
    (record-safe-closed (rate_in_plan (plan_in old.path.chain)) old.book old.safe))

pub returns : goal.returns
returns g c = record {
  book = c.closed-self.ensures;
  device = c.restart.ensures.device;
  moves = λ filters.
      let old = c.args.self.now in
      let closed = c.closed-self.ensures in
      moves-ended g.B.Feeder.kind g.B.Feeder.kept filters old _ c.restart.ensures.kinds
      (λ p used. absurd (let clash : true ≡ false = sym (ap (λ (b : RecordBook). is_unheld b.state) closed) ∙ used in cc))
      (record {
        captured_none = ap (λ (b : RecordBook). b.captured) closed;
        kept_none = ap (λ (b : RecordBook). b.kept) closed;
        read_none = ap (λ (b : RecordBook). b.read) closed;
      })
      c.restart.ensures.empty;
}

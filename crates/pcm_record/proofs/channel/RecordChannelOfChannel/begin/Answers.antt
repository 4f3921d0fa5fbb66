use Rattle.std.proofs.Common.{ap, sym, subst}
use Rattle.pcm_plan.specs.Plans.{rate_in_plan}
use Rattle.pcm_chain.specs.Chains.{plan_in}
use Rattle.pcm_desk.specs.declared.record_book.RecordBook.{RecordBook}
use Rattle.pcm_desk.specs.RecordSafe.{RecordIsSafe}
use Rattle.pcm_desk.proofs.RecordSafe.{record-safe-begun}
use Rattle.pcm_record.proofs.Moving.{moves-ended}
use Rattle.pcm_record.proofs.channel.RecordChannelOfChannel.begin.Goals as goal

pub invariant_of-self-clause-safe : goal.invariant_of-self-clause-safe
invariant_of-self-clause-safe g c =
    subst (RecordIsSafe (rate_in_plan (plan_in c.begin.new.self.chain))) (sym c.begun-self.ensures)
    (record-safe-begun (rate_in_plan (plan_in c.begin.new.self.chain)) c.args.settings)

pub returns : goal.returns
returns g c =
    let begun = c.begun-self.ensures in
    record {
      device_same = c.begin.ensures.device;
      book = begun;
      moves = moves-ended g.B.Feeder.kind g.B.Feeder.kept c.args.tables.now c.args.self.now _ c.begin.ensures.kinds
          (λ p used. c.begin.ensures.planned)
          (record {
            captured_none = ap (λ (b : RecordBook). b.captured) begun;
            kept_none = ap (λ (b : RecordBook). b.kept) begun;
            read_none = ap (λ (b : RecordBook). b.read) begun;
          })
          c.begin.ensures.empty;
    }

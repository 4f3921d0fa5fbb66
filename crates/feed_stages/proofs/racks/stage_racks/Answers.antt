use Rattle.std.proofs.Common.{◌≡◌}
use Rattle.std.proofs.lemmas.Result.{IfErr-weaker}
use Rattle.pcm_feeder.specs.declared.rack.RackFault.TheVariants.{Memory}
use Rattle.pcm_feeder.specs.Racks.{IsRackFault}
use Rattle.feed_stages.proofs.Cases.{kind_by_case}
use Rattle.feed_stages.proofs.Faults.{only-memory}
use Rattle.feed_stages.proofs.racks.stage_racks.Goals as goal

pub returns-clause-fault : goal.returns-clause-fault
returns-clause-fault c =
    let boxes = c.in_ok-sevens.sevens.items in
    let made = c.in_ok-sevens.ensures in
    IfErr-weaker c.of_boxes.result (IsRackFault kind_by_case boxes) (λ fault. fault ≡ Memory)
    (λ fault found. only-memory kind_by_case boxes fault made.kinds made.count found) c.of_boxes.ensures.fault

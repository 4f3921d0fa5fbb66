use Rattle.std.proofs.Common.{◌≡◌, take}
use Rattle.pcm_plan.proofs.plan.Plan.copy.Given as goal

abbrev pub invariant-loop-spec : goal.invariant-loop-spec
invariant-loop-spec l = l.stages.items ≡ take l.spec-index l.spec-items

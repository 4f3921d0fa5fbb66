use Rattle.std.proofs.Common.{◌≡◌, drop}
use Rattle.pcm_plan.specs.Plans.{rate_among}
use Rattle.pcm_plan.proofs.plan.rate_among.Given as goal

abbrev pub invariant-loop-spec : goal.invariant-loop-spec
invariant-loop-spec l = rate_among (drop l.spec-index l.stages) ≡ rate_among l.stages

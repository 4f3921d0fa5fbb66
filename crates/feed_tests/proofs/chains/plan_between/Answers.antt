use Rattle.std.proofs.Common.{sym, subst}
use Rattle.pcm_plan.specs.Plans.{PlanSeen}
use Rattle.pcm_plan.specs.Fits.{HaveTables}
use Rattle.pcm_plan.proofs.Fits.{play-tables}
use Rattle.feed_tests.proofs.chains.plan_between.Goals as goal

pub returns-clause-tables : goal.returns-clause-tables
returns-clause-tables c = subst (λ (p : PlanSeen). HaveTables p.stages c.args.tables.now) (sym c.plan_play.ensures.value)
    (play-tables c.args.tables.now 1 c.args.client.now c.args.device.now c.plan_play.ensures.limits c.requires.client c.requires.device)

use Rattle.pcm_plan.proofs.Gains.{rec-out, recs-outs}
use Rattle.pcm_plan.proofs.laws.gain_changes_nothing_without_a_volume.Goals as goal

pub returns-clause-one : goal.returns-clause-one
returns-clause-one c plan none tables frames k gain = rec-out plan tables frames k gain none

pub returns-clause-several : goal.returns-clause-several
returns-clause-several c plan none tables gain frames from count = recs-outs plan tables gain frames from count none

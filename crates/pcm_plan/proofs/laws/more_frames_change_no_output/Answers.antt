use Rattle.pcm_plan.proofs.Through.{out-append, outs-append}
use Rattle.pcm_plan.proofs.laws.more_frames_change_no_output.Goals as goal

pub returns-clause-one : goal.returns-clause-one
returns-clause-one c plan is tables frames more k gain = out-append plan tables frames more k gain is

pub returns-clause-several : goal.returns-clause-several
returns-clause-several c plan is tables gain frames more from count = outs-append plan tables gain frames more from count is

use Rattle.pcm_plan.proofs.Through.{length-outs, outs-channels, outs-add}
use Rattle.pcm_plan.proofs.laws.outputs_have_the_channels_of_the_target.Goals as goal

pub returns-clause-count : goal.returns-clause-count
returns-clause-count c = length-outs

pub returns-clause-channels : goal.returns-clause-channels
returns-clause-channels c plan is tables gain frames from count = outs-channels plan tables gain frames from count is

pub returns-clause-parts : goal.returns-clause-parts
returns-clause-parts c = outs-add

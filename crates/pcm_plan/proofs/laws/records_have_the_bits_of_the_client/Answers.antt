use Rattle.pcm_plan.proofs.Bits.{recs-bits}
use Rattle.pcm_plan.proofs.laws.records_have_the_bits_of_the_client.Goals as goal

pub returns : goal.returns
returns c client is tables quality device frames from count = recs-bits tables quality client device frames from count is

use Rattle.std.proofs.Common.{arith}
use Rattle.pcm_desk.proofs.laws.the_mixer_alone_sets_volumes.Goals as goal

pub returns-clause-stay : goal.returns-clause-stay
returns-clause-stay c = λ device desk event. grind arith

use Rattle.std.proofs.Common.{arith}
use Rattle.pcm_wave.proofs.Words.{number_at-four}
use Rattle.pcm_wave.proofs.chunk.u32_at.Goals as goal

pub returns : goal.returns
returns c = omega (arith, number_at-four c.args.bytes.now c.args.at c.requires)

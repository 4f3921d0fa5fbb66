use Rattle.std.proofs.Common.{rules}
use Rattle.pcm_mix.proofs.Vectors.{limited-front}
use Rattle.pcm_mix.proofs.limits.Limits.mix_eight_below.Goals as goal

pub returns : goal.returns
returns c =
    let limits = c.args.self in
    let blocks = c.requires.blocks in
    limited-front limits.bits 8 limits.least limits.greatest c.args.acc.now c.args.add.now limits.some c.requires.few limits.least_is
    limits.greatest_is (search rules) (search rules) blocks.held_length blocks.added_length blocks.held blocks.added

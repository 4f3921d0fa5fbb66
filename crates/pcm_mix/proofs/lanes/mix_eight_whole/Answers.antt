use Rattle.pcm_mix.proofs.Vectors.{saturated-front}
use Rattle.pcm_mix.proofs.lanes.mix_eight_whole.Goals as goal

pub returns : goal.returns
returns c =
    saturated-front 8 c.args.acc.now c.args.add.now c.requires.held_length c.requires.added_length c.requires.held c.requires.added

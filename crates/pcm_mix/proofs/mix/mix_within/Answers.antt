use Rattle.std.proofs.lemmas.List.Elements.{All-same}
use Rattle.pcm_num.specs.Limit.{FitsBits}
use Rattle.pcm_mix.specs.Mix.{mixed}
use Rattle.pcm_mix.proofs.Blocks.{mixed-end, mixed-fits}
use Rattle.pcm_mix.proofs.mix.mix_within.Goals as goal

pub returns-clause-value : goal.returns-clause-value
returns-clause-value c =
    let front = c.mix_lanes-at in
    mixed-end c.args.limits.bits front.result c.args.acc.now c.args.add.now front.new.acc c.mix_samples.new.acc c.requires.lengths
    front.ensures.most front.ensures.value c.mix_samples.ensures

pub returns-clause-fits : goal.returns-clause-fits
returns-clause-fits c =
    All-same (FitsBits c.args.limits.bits) _ (mixed c.args.limits.bits c.args.acc.now c.args.add.now) (returns-clause-value c)
    (mixed-fits c.args.limits.bits c.args.acc.now c.args.add.now)

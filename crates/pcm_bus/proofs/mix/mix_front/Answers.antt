use Rattle.std.proofs.Common.{◌∙◌}
use Rattle.std.proofs.lemmas.List.{length-take-le, take_at}
use Rattle.pcm_bus.proofs.mix.mix_front.Goals as goal

pub returns-clause-block : goal.returns-clause-block
returns-clause-block g c = λ sources stand.
    take_at c.mix_block.new.sum _ c.args.samples (c.mix_block.auto.sum ∙ length-take-le c.args.samples c.args.sum.now c.requires.sum)
    ∙ c.mix_block.ensures.block sources stand

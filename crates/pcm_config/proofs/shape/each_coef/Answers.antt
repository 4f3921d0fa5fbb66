use Rattle.std.proofs.Common.{refl, arith}
use Rattle.pcm_config.specs.Filters.{filter_coef}
use Rattle.pcm_config.proofs.Arrays.{all-read}
use Rattle.pcm_config.proofs.shape.each_coef.Goals as goal

pub returns : goal.returns
returns c =
    let all = all-read filter_coef c.args.numbers.now c.loop-number.number-index c.loop-number.coefs.items (omega arith)
    c.loop-number.invariant in
    rw (c.new.ensures, all) refl

use Rattle.pcm_config.specs.Filters.{filter_coef}
use Rattle.pcm_config.proofs.Arrays.{IsRead}
use Rattle.pcm_config.proofs.shape.each_coef.Given as goal

abbrev pub invariant-loop-number : goal.invariant-loop-number
invariant-loop-number l = IsRead filter_coef l.numbers l.number-index l.coefs.items

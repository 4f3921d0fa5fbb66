use Rattle.toml.specs.Data.{as_integer}
use Rattle.toml.specs.View.{view}
use Rattle.pcm_config.proofs.Arrays.{IsRead}
use Rattle.pcm_config.proofs.rows.each_number.Given as goal

abbrev pub invariant-loop-value : goal.invariant-loop-value
invariant-loop-value l = IsRead (λ value. as_integer (view value)) l.values l.value-index l.numbers.items

use Rattle.toml.specs.View.{view}
use Rattle.pcm_config.specs.Filters.{numbers_in}
use Rattle.pcm_config.proofs.Arrays.{IsRead}
use Rattle.pcm_config.proofs.rows.each_row.Given as goal

abbrev pub invariant-loop-value : goal.invariant-loop-value
invariant-loop-value l = IsRead (λ value. numbers_in (view value)) l.values l.value-index l.rows.items

use Rattle.pcm_feeder.specs.declared.limits.TheConstants.{FILTERS}
use Rattle.pcm_feeder.specs.Limits.{IsTable}
use Rattle.pcm_config.specs.Lists.{AreFew}
use Rattle.pcm_config.specs.Lookups.{tables_seen}
use Rattle.pcm_config.specs.Filters.{filters_in}
use Rattle.pcm_config.proofs.Judging.{answer-kept}
use Rattle.pcm_config.proofs.FilterLimits.{filters-kept}
use Rattle.pcm_config.proofs.tables.filters_in.Goals as goal

pub returns-clause-limits : goal.returns-clause-limits
returns-clause-limits c =
    let tables = tables_seen c.args.tables.now in
    answer-kept (λ list. list.items) c.each_of.result (filters_in tables) (AreFew FILTERS IsTable)
    (rw (← c.in_ok-few.ensures) c.each_of.ensures) (filters-kept tables)

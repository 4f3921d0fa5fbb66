use Rattle.pcm_feeder.specs.declared.limits.TheConstants.{SECTIONS}
use Rattle.pcm_feeder.specs.Limits.{IsSection}
use Rattle.pcm_config.specs.Lists.{AreFew}
use Rattle.pcm_config.specs.Lookups.{tables_seen}
use Rattle.pcm_config.specs.Sections.{sections_in}
use Rattle.pcm_config.proofs.Judging.{answer-kept}
use Rattle.pcm_config.proofs.SectionLimits.{sections-kept}
use Rattle.pcm_config.proofs.tables.sections_in.Goals as goal

pub returns-clause-limits : goal.returns-clause-limits
returns-clause-limits c =
    let tables = tables_seen c.args.tables.now in
    answer-kept (λ list. list.items) c.each_of.result (sections_in tables) (AreFew SECTIONS IsSection)
    (rw (← c.in_ok-few.ensures) c.each_of.ensures) (sections-kept tables)

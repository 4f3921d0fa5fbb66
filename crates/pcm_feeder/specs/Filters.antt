-- What a contract sees of `Tables`.
use Rattle.std.specs.Prelude.{List, []}
use Rattle.pcm_feeder.specs.declared.section.Section.{Section}
use Rattle.pcm_feeder.specs.declared.table.Table.{Table}

-- the filters of a run and the sections of its equaliser, in their order
pub record Filters : Type 0 where
  pub list : List Table
  pub sections : List Section

-- these filters and sections as those of a run
abbrev pub as_filters : List Table → List Section → Filters
as_filters list sections = record { list = list; sections = sections }

-- neither a filter nor a section
abbrev pub no_filters : Filters
no_filters = as_filters [] []

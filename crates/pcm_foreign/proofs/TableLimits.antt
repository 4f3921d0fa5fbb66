-- Filters and sections that pass their tests can be those of a run.
use Rattle.std.proofs.Common.{◌≡◌, ℤ, true, ◌&&◌, nat_le, List, length, map}
use Rattle.std.specs.List.{list_all}
use Rattle.std.proofs.lemmas.Bool.{and_parts, leb-true}
use Rattle.std.proofs.lemmas.List.{length-map}
use Rattle.pcm_feeder.specs.declared.limits.TheConstants.{FILTERS, SECTIONS}
use Rattle.pcm_feeder.specs.Filters.{as_filters}
use Rattle.pcm_feeder.specs.Limits.{AreFilters, IsSection, IsTable}
use Rattle.pcm_foreign.specs.declared.filters.FilterNumbers.{FilterNumbers}
use Rattle.pcm_foreign.specs.declared.sections.SectionNumbers.{SectionNumbers}
use Rattle.pcm_foreign.specs.Filters.{filter_from, is_filter}
use Rattle.pcm_foreign.specs.Sections.{is_section, section_with}
use Rattle.pcm_foreign.specs.Tables.{are_tables}
use Rattle.pcm_foreign.proofs.Judging.{all-made}
use Rattle.pcm_foreign.proofs.FilterLimits.{filter-is}
use Rattle.pcm_foreign.proofs.SectionLimits.{section-is}

-- filters and sections that pass their tests are within their limits
pub tables-are : (filters : List FilterNumbers) (coefs : List ℤ) (sections : List SectionNumbers)
    → are_tables filters coefs sections ≡ true → AreFilters (as_filters (map (filter_from coefs) filters) (map section_with sections))
tables-are filters coefs sections passes =
    let (before, all) = and_parts (nat_le (length filters) FILTERS && list_all (is_filter coefs) filters && nat_le (length sections) SECTIONS) (list_all is_section sections) passes in
    let (first, few) = and_parts (nat_le (length filters) FILTERS && list_all (is_filter coefs) filters) (nat_le (length sections) SECTIONS) before in
    let (count, each) = and_parts (nat_le (length filters) FILTERS) (list_all (is_filter coefs) filters) first in
    record {
      count = rw (length-map filters (filter_from coefs)) (leb-true (length filters) FILTERS count);
      each = all-made (is_filter coefs) IsTable (filter_from coefs) (filter-is coefs) filters each;
      few = rw (length-map sections section_with) (leb-true (length sections) SECTIONS few);
      sections = all-made is_section IsSection section_with section-is sections all;
    }

-- The filters and the sections of a run that numbers stand for.
use Rattle.std.specs.Prelude.{◌≡◌, ℤ, Bool, true, ◌&&◌, nat_le, if◌then◌else◌, List, length, map, Option, Some, None, is_some, Result, Ok, Err}
use Rattle.std.specs.List.{list_all}
use Rattle.pcm_feeder.specs.declared.limits.TheConstants.{FILTERS, SECTIONS}
use Rattle.pcm_feeder.specs.Filters.{Filters, as_filters}
use Rattle.pcm_foreign.specs.declared.fault.NumbersFault.{NumbersFault}
use Rattle.pcm_foreign.specs.declared.fault.NumbersFault.TheVariants.{Memory, Argument}
use Rattle.pcm_foreign.specs.declared.filters.FilterNumbers.{FilterNumbers}
use Rattle.pcm_foreign.specs.declared.sections.SectionNumbers.{SectionNumbers}
use Rattle.pcm_foreign.specs.Filters.{filter_from, is_filter}
use Rattle.pcm_foreign.specs.Sections.{is_section, section_with}

-- these are few enough, and each is within its limits
abbrev pub are_tables : List FilterNumbers → List ℤ → List SectionNumbers → Bool
are_tables filters coefs sections =
    nat_le (length filters) FILTERS && list_all (is_filter coefs) filters
    && nat_le (length sections) SECTIONS && list_all is_section sections

-- the filters and the sections of numbers, in their order, if all are within their limits
abbrev pub tables_from : List FilterNumbers → List ℤ → List SectionNumbers → Option Filters
tables_from filters coefs sections =
    if are_tables filters coefs sections then Some (as_filters (map (filter_from coefs) filters) (map section_with sections))
    else None

-- What was judged, or that there is nothing. Memory can only run out where there is something.
abbrev pub ComesOf : {A : Type 0} → Result A NumbersFault → Option A → Type 0
ComesOf (Ok value) judged = judged ≡ Some value
ComesOf (Err Argument) judged = judged ≡ None
ComesOf (Err Memory) judged = is_some judged ≡ true

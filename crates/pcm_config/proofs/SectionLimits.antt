-- The sections that are read keep their limits.
use Rattle.std.proofs.Common.{ℤ, not, List, IfOk}
use Rattle.pcm_feeder.specs.Limits.{IsSection, IsSectionCoef}
use Rattle.pcm_feeder.specs.declared.limits.TheConstants.{SECTION_COEF_MOST, SECTION_SHIFT_MOST, SECTIONS}
use Rattle.toml.specs.Data.{Members}
use Rattle.pcm_config.specs.declared.fault.ConfigKind.TheVariants.{Coef, Range}
use Rattle.pcm_config.specs.declared.place.ConfigPlace.TheVariants.{Eq}
use Rattle.pcm_config.specs.declared.section.Numbers.{Numbers}
use Rattle.pcm_config.specs.Lists.{AreFew, has_each}
use Rattle.pcm_config.specs.Rows.{as_coef, in_range}
use Rattle.pcm_config.specs.Sections.{numbers_of, section_coef, section_in, section_keys, section_shift, sections_in, settled_section}
use Rattle.pcm_config.proofs.Judging.{IsBetween, after-any, after-kept, coef-kept, passed, range-kept, required-kept}
use Rattle.pcm_config.proofs.EachTable.{few-kept}

shift-kept : (number : ℤ) → IfOk (section_shift number) (IsBetween 1 SECTION_SHIFT_MOST)
unfolding section_shift
shift-kept number =
    required-kept Range Eq (in_range 1 SECTION_SHIFT_MOST number) (IsBetween 1 SECTION_SHIFT_MOST) (range-kept 1 SECTION_SHIFT_MOST number)

section-coef-kept : (number : ℤ) → IfOk (section_coef number) IsSectionCoef
unfolding section_coef
section-coef-kept number = required-kept Coef Eq (as_coef SECTION_COEF_MOST number) IsSectionCoef (coef-kept SECTION_COEF_MOST number)

settled-kept : (numbers : Numbers) → IfOk (settled_section numbers) IsSection
unfolding settled_section
settled-kept numbers =
    after-kept (section_shift numbers.shift) _ (IsBetween 1 SECTION_SHIFT_MOST) IsSection (shift-kept numbers.shift) (λ shift bits.
    after-kept (section_coef numbers.b0) _ IsSectionCoef IsSection (section-coef-kept numbers.b0) (λ b0 here.
    after-kept (section_coef numbers.b1) _ IsSectionCoef IsSection (section-coef-kept numbers.b1) (λ b1 before.
    after-kept (section_coef numbers.b2) _ IsSectionCoef IsSection (section-coef-kept numbers.b2) (λ b2 further.
    after-kept (section_coef numbers.a1) _ IsSectionCoef IsSection (section-coef-kept numbers.a1) (λ a1 last.
    after-kept (section_coef numbers.a2) _ IsSectionCoef IsSection (section-coef-kept numbers.a2) (λ a2 other.
    record { least_shift = bits.0; most_shift = bits.1; b0 = here; b1 = before; b2 = further; a1 = last; a2 = other }))))))

section-kept : (table : Members) → IfOk (section_in table) IsSection
unfolding section_in
section-kept table =
    passed (not (has_each section_keys table)) _ _ IsSection (λ _.
    after-any (numbers_of table) settled_section IsSection settled-kept)

-- the sections of a configuration are within their limits
pub sections-kept : (tables : List Members) → IfOk (sections_in tables) (AreFew SECTIONS IsSection)
sections-kept tables = few-kept SECTIONS Eq IsSection section_in section-kept tables

-- The sections that numbers stand for.
use Rattle.std.specs.Prelude.{ℕ, ℤ, neg_ℤ, int_le, Bool, ◌&&◌, nat_le}
use Rattle.pcm_feeder.specs.declared.limits.TheConstants.{SECTION_COEF_MOST, SECTION_SHIFT_MOST}
use Rattle.pcm_feeder.specs.declared.section.Section.{Section}
use Rattle.pcm_foreign.specs.declared.sections.SectionNumbers.{SectionNumbers}

-- a coefficient within its limit on both sides of 0
abbrev pub is_section_coef : ℤ → Bool
is_section_coef coef = int_le (neg_ℤ SECTION_COEF_MOST) coef && int_le coef SECTION_COEF_MOST

-- a number of bits within its limit
abbrev pub is_section_shift : ℕ → Bool
is_section_shift shift = nat_le 1 shift && nat_le shift SECTION_SHIFT_MOST

-- what a section's input counts for is within its limits
abbrev pub are_input_coefs : SectionNumbers → Bool
are_input_coefs section = is_section_coef section.b0 && is_section_coef section.b1 && is_section_coef section.b2

-- and what its output counts for
abbrev pub are_output_coefs : SectionNumbers → Bool
are_output_coefs section = is_section_coef section.a1 && is_section_coef section.a2

-- a section within its limits
abbrev pub is_section : SectionNumbers → Bool
is_section section = is_section_shift section.shift && are_input_coefs section && are_output_coefs section

-- the section of numbers
abbrev pub section_with : SectionNumbers → Section
section_with section = record {
  shift = section.shift;
  b0 = section.b0;
  b1 = section.b1;
  b2 = section.b2;
  a1 = section.a1;
  a2 = section.a2;
}

-- Sections that pass their tests are within their limits.
use Rattle.std.proofs.Common.{◌≡◌, ℤ, true, ◌&&◌, nat_le, arith}
use Rattle.std.specs.Prelude.{neg_ℤ, int_le}
use Rattle.std.proofs.lemmas.Bool.{and_parts, leb-true}
use Rattle.std.proofs.lemmas.Int.{ints}
use Rattle.pcm_feeder.specs.Limits.{IsSection, IsSectionCoef}
use Rattle.pcm_feeder.specs.declared.limits.TheConstants.{SECTION_COEF_MOST, SECTION_SHIFT_MOST}
use Rattle.pcm_foreign.specs.declared.sections.SectionNumbers.{SectionNumbers}
use Rattle.pcm_foreign.specs.Sections.{are_input_coefs, are_output_coefs, is_section, is_section_coef, is_section_shift, section_with}

coef-is : (coef : ℤ) → is_section_coef coef ≡ true → IsSectionCoef coef
coef-is coef passes =
    let (low, high) = and_parts (int_le (neg_ℤ SECTION_COEF_MOST) coef) (int_le coef SECTION_COEF_MOST) passes in
    record { low = grind (arith, ints); high = grind (arith, ints) }

-- a section that passes its test is within its limits
pub section-is : (section : SectionNumbers) → is_section section ≡ true → IsSection (section_with section)
section-is section passes =
    let (before, output) = and_parts (is_section_shift section.shift && are_input_coefs section) (are_output_coefs section) passes in
    let (shift, input) = and_parts (is_section_shift section.shift) (are_input_coefs section) before in
    let (least, most) = and_parts (nat_le 1 section.shift) (nat_le section.shift SECTION_SHIFT_MOST) shift in
    let (first, b2) = and_parts (is_section_coef section.b0 && is_section_coef section.b1) (is_section_coef section.b2) input in
    let (b0, b1) = and_parts (is_section_coef section.b0) (is_section_coef section.b1) first in
    let (a1, a2) = and_parts (is_section_coef section.a1) (is_section_coef section.a2) output in
    record {
      least_shift = leb-true 1 section.shift least;
      most_shift = leb-true section.shift SECTION_SHIFT_MOST most;
      b0 = coef-is section.b0 b0;
      b1 = coef-is section.b1 b1;
      b2 = coef-is section.b2 b2;
      a1 = coef-is section.a1 a1;
      a2 = coef-is section.a2 a2;
    }

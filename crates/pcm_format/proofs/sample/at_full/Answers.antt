use Rattle.std.proofs.Common.{◌≡◌, ℤ, pos, ◌*ℤ◌, FitsSigned, w32, subst, sym, ap, rules}
use Rattle.std.proofs.lemmas.Int.{to_z-of_z}
use Rattle.pcm_num.specs.Limit.{FitsBits}
use Rattle.pcm_num.proofs.Limits.{FitsBits-mul_pow, FitsSigned-from_bits}
use Rattle.pcm_format.specs.declared.format.Format.{Format}
use Rattle.pcm_format.specs.Formats.{bits_of}
use Rattle.pcm_format.specs.Samples.{scale_of}
use Rattle.pcm_format.proofs.Spelling.{bits_of-above, bits_of-within}
use Rattle.pcm_format.proofs.sample.at_full.Goals as goal

-- a value at scale is a 32-bit number
product-fits : (f : Format) (value scale : ℤ) → FitsBits (bits_of f) value → scale ≡ pos (scale_of (bits_of f))
    → FitsSigned w32 (value *ℤ scale)
product-fits f value scale fits is =
    let P : ℤ → Type 0 = λ s. FitsSigned w32 (value *ℤ s) in
    subst P (sym is) (FitsSigned-from_bits (value *ℤ pos (scale_of (bits_of f)))
    (FitsBits-mul_pow (bits_of f) value (bits_of-above f) (bits_of-within f) fits))

pub overflow_mul-result : goal.overflow_mul-result
overflow_mul-result c =
    let value : FitsSigned w32 c.args.value = c.ranges.value in
    let scale : FitsSigned w32 c.scale.result = search rules in
    simp to_z-of_z (product-fits c.args.f c.args.value c.scale.result c.requires c.scale.ensures)

pub returns : goal.returns
returns c =
    let value : FitsSigned w32 c.args.value = c.ranges.value in
    let scale : FitsSigned w32 c.scale.result = search rules in
    let product : FitsSigned w32 (c.args.value *ℤ c.scale.result) = product-fits c.args.f c.args.value c.scale.result c.requires
    c.scale.ensures in
    simp to_z-of_z (ap (λ s. c.args.value *ℤ s) c.scale.ensures)

use Rattle.std.proofs.Common.{◌≡◌, ◌-ℤ◌, ◌*ℤ◌, pos, w64, FitsSigned, sym, ◌∙◌, subst, arith}
use mir.Syntax.{w128}
use Rattle.std.specs.Int.{int_div_euclid}
use Rattle.std.proofs.lemmas.Int.{to_z-of_z, ints}
use Rattle.pcm_desk.specs.Device.{passed_for, unfiltered}
use Rattle.pcm_desk.proofs.Passing.{euclid-floor, fits-gap, fits-passed, fits-product}
use Rattle.pcm_desk.proofs.device.Device.passed.Goals as goal

-- the quotient, whatever the widths in between
quotient : (c : goal.After-div_euclid) → c.div_euclid.result ≡ passed_for (unfiltered c.args.self.now) c.args.handed
quotient c =
    let device = c.args.self.now in
    let handed_fits : FitsSigned w128 (pos c.args.handed) = record { sfits = omega (arith, ints) } in
    let ring_fits : FitsSigned w128 (pos device.ring_frames) = record { sfits = omega (arith, ints) } in
    let mix_fits : FitsSigned w128 (pos device.mix.rate) = record { sfits = omega (arith, ints) } in
    let rate_fits : FitsSigned w128 (pos device.settings.rate) = record { sfits = omega (arith, ints) } in
    let gap_fits : FitsSigned w128 (pos c.args.handed -ℤ pos device.ring_frames) = fits-gap c.args.handed device.ring_frames (omega arith)
    (omega arith) in
    let product_fits : FitsSigned w128 ((pos c.args.handed -ℤ pos device.ring_frames) *ℤ pos device.mix.rate) = fits-product c.args.handed
    device.ring_frames device.mix.rate (omega arith) (omega arith) c.requires.rates.mix_rate.most in
    let is : c.div_euclid.result ≡ int_div_euclid ((pos c.args.handed -ℤ pos device.ring_frames) *ℤ pos device.mix.rate)
    (pos device.settings.rate) =
    simp to_z-of_z at (rw (c.from.ensures, c.from-2.ensures, c.from-mix.ensures, c.from-rate.ensures) at c.div_euclid.ensures) in
    is ∙ euclid-floor ((pos c.args.handed -ℤ pos device.ring_frames) *ℤ pos device.mix.rate) device.settings.rate

-- and it fits both widths
narrow : (c : goal.After-div_euclid) → FitsSigned w64 c.div_euclid.result
narrow c =
    let device = c.args.self.now in
    subst (FitsSigned w64) (sym (quotient c))
    (fits-passed (unfiltered device) c.args.handed c.requires.count (omega arith) c.requires.rates.mix_rate c.requires.rates.rate)

wide : (c : goal.After-div_euclid) → FitsSigned w128 c.div_euclid.result
wide c = record { sfits = c.div_euclid.type_inv }

pub overflow_cast-result : goal.overflow_cast-result
overflow_cast-result c = subst (FitsSigned w64) (sym (to_z-of_z w128 c.div_euclid.result (wide c))) (narrow c)

pub returns : goal.returns
returns c =
    let wide_fits = wide c in
    let narrow_fits = narrow c in
    simp to_z-of_z (quotient c)

use Rattle.std.proofs.Common.{◌≡◌, ◌+ℤ◌, ◌-◌, ◌^◌, lit<, pos, w32, w64, FitsSigned, ap, ◌∙◌, rules, arith}
use Rattle.std.proofs.Math.Nat.{pow-le-pow_right}
use Rattle.std.proofs.lemmas.Int.{to_z-of_z, ints}
use Rattle.pcm_num.specs.Floor.{floor_div}
use Rattle.pcm_num.specs.Limit.{clamped}
use Rattle.pcm_feeder.proofs.Products.{IsWithin, fits-long}
use Rattle.pcm_feeder.proofs.sums.scaled_down.Goals as goal

pub returns : goal.returns
returns c =
    let sum = c.args.sum in
    let shift = c.args.shift in
    let half = 2 ^ (shift - 1) in
    let within = pow-le-pow_right {n = 2} (lit< tt) {i = shift - 1} {j = 31} (omega arith) in
    let both : IsWithin (2 ^ 63 - 1) (sum +ℤ pos half) = record
    { least = omega (arith, ints, c.requires.least); most = omega (arith, ints, c.requires.most, within) } in
    let result_fits : FitsSigned w32 c.clamp_bits.result = search rules in
    let floor_fits : FitsSigned w64 c.floor_shift.result = search rules in
    let sum_fits : FitsSigned w64 sum = c.ranges.sum in
    let half_fits : FitsSigned w64 (pos half) = fits-long (pos half)
    (record { least = omega (arith, ints); most = omega (arith, ints, within) }) in
    let both_fits : FitsSigned w64 (sum +ℤ pos half) = fits-long (sum +ℤ pos half) both in
    let floor : c.floor_shift.result ≡ floor_div (sum +ℤ pos half) (2 ^ shift) = simp
    to_z-of_z at (rw c.half.ensures at c.floor_shift.ensures.value) in
    to_z-of_z w32 c.clamp_bits.result result_fits ∙ c.clamp_bits.ensures.value
    ∙ ap (clamped 32) (to_z-of_z w64 c.floor_shift.result floor_fits ∙ floor)

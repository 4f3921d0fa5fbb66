use Rattle.std.proofs.Common.{◌*◌, ◌^◌, pos, ◌+ℤ◌, ◌-ℤ◌, ◌*ℤ◌, ◌≤ℤ◌, ◌<ℤ◌, w32, w64, FitsSigned, ap, ◌∙◌, rules, arith}
use Rattle.std.proofs.lemmas.Int.{to_z-of_z, ints}
use Rattle.feed_linear.proofs.Blends.{blend-is, way-within}
use Rattle.feed_linear.proofs.blend.Blend.steps.Goals as goal

-- the parts of the way are few enough to be raised
within : (c : goal.After-divisor) → (pos 0 ≤ℤ (c.rise-way.result +ℤ pos (2 ^ 32 * c.divisor.result))) × (c.rise-way.result <ℤ pos (2 ^ 32 * c.divisor.result))
within c =
    let first : FitsSigned w32 c.args.sample = search rules in
    let second : FitsSigned w32 c.args.next = search rules in
    let way = simp to_z-of_z at c.rise-way.ensures in
    rw (way, c.divisor.ensures) (way-within (c.args.next -ℤ c.args.sample) c.args.self.parts c.args.self.whole.divisor
    (omega (arith, c.args.self.whole.least)) c.args.self.within (omega (arith, ints)) (omega (arith, ints)))

pub raised-requires-clause-least : goal.raised-requires-clause-least
raised-requires-clause-least c =
    let fits : FitsSigned w64 c.rise-way.result = search rules in
    simp to_z-of_z (within c).0

pub raised-requires-clause-most : goal.raised-requires-clause-most
raised-requires-clause-most c =
    let fits : FitsSigned w64 c.rise-way.result = search rules in
    simp to_z-of_z (within c).1

pub returns : goal.returns
returns c =
    let blend = c.args.self in
    let fits : FitsSigned w64 c.rise-way.result = search rules in
    let first : FitsSigned w32 c.args.sample = search rules in
    let second : FitsSigned w32 c.args.next = search rules in
    let way = simp to_z-of_z at c.rise-way.ensures in
    let is = simp to_z-of_z at c.raised.ensures.value
    ∙ ap (λ z. z +ℤ pos (2 ^ 32 * c.divisor.result)) way ∙ ap (λ d. (c.args.next -ℤ c.args.sample) *ℤ pos blend.parts +ℤ pos (2 ^ 32 * d)) c.divisor.ensures in
    rw c.quotient.ensures (blend-is c.args.sample c.args.next blend.parts blend.whole.divisor c.raised.result (omega (arith, blend.whole.least)) blend.within first second is)
